use Rattle.std.proofs.Common.{◌∙◌, List, map, not, ap, subst, string_bytes}
use Rattle.std.specs.Prelude.{filter, ◌==◌, length}
use Rattle.std.specs.declared.string.String.{String}
use Rattle.std.specs.declared.alloc.Global.{Global}
use Rattle.hack_base.specs.Names.{Name, names_of}
use Rattle.hack_features.specs.declared.feature.Feature.{Feature}
use Rattle.hack_base.specs.Notes.{note_of, warning_note, info_note}
use Rattle.hack_planner.specs.Texts.{exclusion_text, lift_text, private_text}
use Rattle.hack_words.specs.declared.cli.args.Args.{Args}
use Rattle.hack_planner.specs.Members.{SelectsMembers, Collects, IsMatched, MatchesSome, is_called, is_skipped}
use Rattle.hack_planner.specs.Members as plain
use Rattle.hack_planner.specs.MembersView.{member_view}
use Rattle.hack_planner.proofs.PackageLemmas.{three-lists}
use Rattle.hack_planner.proofs.packages.choose_packages.Goals as goal

pub returns-clause-ok : goal.returns-clause-ok
returns-clause-ok c =
    let w : Args = c.args.args.now in
    let left : List plain.Member = map member_view c.in_ok-left.left.items in
    record {
      remaining = left;
      left = record {
        about = map member_view c.in-Ok.about.items;
        is_about = c.in-Ok.ensures.ok;
        remain = subst (λ l. SelectsMembers (λ (m : plain.Member). ¬ IsMatched (names_of l) m) (map member_view c.in-Ok.about.items) left) c.deref-2.ensures.value
            (subst (λ l. SelectsMembers (λ (m : plain.Member). ¬ IsMatched (names_of c.deref-2.result.now) m) (map member_view l) left) c.deref.ensures.value c.in_ok-left.ensures);
      };
      chosen = c.in_ok-kept_ids.ensures ∙ ap (λ l. map (λ (m : plain.Member). m.place) (filter (λ (m : plain.Member). not (is_skipped w m)) (map member_view l))) c.deref-6.ensures.value;
    }

pub returns-clause-notes : goal.returns-clause-notes
returns-clause-notes c =
    let w : Args = c.args.args.now in
    let root = c.args.root.now in
    let ms : List plain.Member = map member_view c.args.members.now in
    let left : List plain.Member = map member_view c.in_ok-left.left.items in
    record {
      remaining = left;
      on_exclusions = map note_of c.in_ok-notices.notices.items;
      left = record {
        about = map member_view c.in-Ok.about.items;
        is_about = c.in-Ok.ensures.ok;
        remain = subst (λ l. SelectsMembers (λ (m : plain.Member). ¬ IsMatched (names_of l) m) (map member_view c.in-Ok.about.items) left) c.deref-2.ensures.value
            (subst (λ l. SelectsMembers (λ (m : plain.Member). ¬ IsMatched (names_of c.deref-2.result.now) m) (map member_view l) left) c.deref.ensures.value c.in_ok-left.ensures);
      };
      single = c.is_one.ensures ∙ ap (λ l. length (map member_view l) == 1) c.deref-7.ensures.value;
      unmatched = subst (λ l. Collects (λ (spec : Name). ¬ MatchesSome ms spec) (λ (spec : Name). warning_note (exclusion_text root spec)) (names_of l) (map note_of c.in_ok-notices.notices.items)) c.deref-3.ensures.value c.in_ok-notices.ensures;
      told = three-lists c.in_ok-notices.notices.items c.in_ok-lifts.lifts.items c.in_ok-skips.skips.items _ _ _ _ c.in_ok-append.ensures.items c.in_ok-append-2.ensures.items
          (c.in_ok-lifts.ensures ∙ ap (λ l. map (λ owner. warning_note (lift_text root owner)) (filter (λ owner. not (is_called ms owner)) (map (λ (lift : String Global × Feature). string_bytes lift.0) l))) c.deref-4.ensures.value)
          (c.in_ok-skips.ensures ∙ ap (λ l. map (λ (m : plain.Member). info_note (private_text w.verbose m.pkg)) (filter (is_skipped w) (map member_view l))) c.deref-5.ensures.value);
    }
