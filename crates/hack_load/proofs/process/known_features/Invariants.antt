use Rattle.std.proofs.Common.{◌≡◌, take, map, not, List, ℕ, Bor}
use Rattle.std.specs.List.{filter}
use Rattle.hack_base.specs.Names.{names_of}
use Rattle.hack_base.specs.Notes.{note_of}
use Rattle.hack_load.specs.ContextView.{context_view}
use Rattle.hack_load.specs.GivenFeatures.{knows, left_out, name_or_empty_at}
use Rattle.hack_load.proofs.process.known_features.Given as goal

-- the features so far are split: the known ones, and a notice for each of the others
abbrev pub invariant-loop-name : goal.invariant-loop-name
invariant-loop-name l =
    (map (λ (word : Bor (List ℕ)). word.now) l.names.items ≡ filter (knows (context_view l.cx) l.id.index) (names_of (take l.name-index l.cx.args.features.items)))
    × (map note_of l.notices.items ≡ map (left_out (name_or_empty_at (context_view l.cx) l.id.index)) (filter (λ f. not (knows (context_view l.cx) l.id.index f)) (names_of (take l.name-index l.cx.args.features.items))))
