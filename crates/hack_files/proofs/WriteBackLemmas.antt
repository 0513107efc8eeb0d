-- What is said of files that are written back, one after another.
use Rattle.std.proofs.Common.{◌≡◌, ◌∙◌, ◌<◌, ◌≤◌, ◌+◌, ◌++◌, ℕ, List, [], ◌∷◌, Bool, true, false, Option, cond, append-nil, ap, map, refl, length, subst, sym, take}
use Rattle.std.specs.Prelude.{not}
use Rattle.std.specs.List.{filter, flat_map}
use Rattle.std.proofs.lemmas.Grind.{flat_map-append}
use Rattle.std.proofs.lemmas.List.{map-append, take_all}
use Rattle.std.proofs.lemmas.List.Elements.{filter-append}
use Rattle.hack_base.proofs.StreamLemmas.{wrote_more}
use Rattle.hack_base.specs.Counters.{GrowsBy}
use Rattle.hack_base.specs.Streams.{Stream, WritesAll, WritesText}
use Rattle.hack_term.specs.Lines.{error_line}
use Rattle.hack_term.specs.declared.term.Coloring.{Coloring}
use Rattle.hack_files.specs.BackTexts.{unwritten_text}
use Rattle.hack_files.specs.Restore.{Back, Kept}
use Rattle.hack_files.specs.declared.fs.Files.{Ghosts as Filing}
use Rattle.hack_files.specs.WriteBacks.{SaysBack, WriteBack, back_lines, is_reported, refusal_lines, refused_among}
use Rattle.hack_files.proofs.RestoreLemmas.{BackBut, IsAt, back_all, one_more}

-- the line of a path that isn't reported otherwise
pub refusal_line : (coloring : Coloring) (reported : Option (List ℕ)) (path text : List ℕ) (old new : Stream) → is_reported reported path ≡ false → text ≡ unwritten_text path
    → WritesText (error_line coloring text) old new → WritesAll (refusal_lines coloring reported path) old new
refusal_line coloring reported path text old new un is wrote =
    rw un (new, subst (λ t. WritesText (error_line coloring t) old new) is wrote, refl)

-- the lines of the first i files were said, of which these were refused
pub record SaysTo (coloring : Coloring) (verbose : Bool) (reported : Option (List ℕ)) (files : List Kept) (i : ℕ) (spoilt : List (List ℕ)) (old new : Stream) : Type 0 where
  pub backs : List WriteBack
  pub each : map (λ b. b.file) backs ≡ take i files
  pub refused : refused_among backs ≡ spoilt
  pub said : WritesAll (flat_map (back_lines coloring verbose reported) backs) old new

pub says_none : (coloring : Coloring) (verbose : Bool) (reported : Option (List ℕ)) (files : List Kept) (s : Stream) → SaysTo coloring verbose reported files 0 [] s s
says_none coloring verbose reported files s = record { backs = []; each = refl; refused = refl; said = refl }

-- the path of a last one comes last, where it was refused
refused_last : (backs : List WriteBack) (b : WriteBack) → refused_among (backs ++ b ∷ []) ≡ refused_among backs ++ cond b.written [] (b.file.path ∷ [])
refused_last backs b =
    ap (map (λ b. b.file.path)) (filter-append (λ b. not b.written) backs (b ∷ []))
    ∙ (map-append (λ b. b.file.path) (filter (λ b. not b.written) backs) (filter (λ b. not b.written) (b ∷ [])) ∙ ap (λ l. refused_among backs ++ l) (alone b))
  where
    alone : (b : WriteBack) → refused_among (b ∷ []) ≡ cond b.written [] (b.file.path ∷ [])
    alone b = elim b.written as (λ w. map (λ b. b.file.path) (cond (not w) (b ∷ []) []) ≡ cond w [] (b.file.path ∷ [])) [ true ↦ refl | false ↦ refl ]

-- after one more, said as before
pub says_more : (coloring : Coloring) (verbose : Bool) (now_coloring : Coloring) (now_verbose : Bool) (reported : Option (List ℕ)) (files : List Kept) (i : ℕ) (file : Kept) (written : Bool) (spoilt now_spoilt : List (List ℕ)) (old mid new : Stream)
    → i < length files → IsAt files i file → now_spoilt ≡ spoilt ++ cond written [] (file.path ∷ [])
    → now_coloring ≡ coloring → now_verbose ≡ verbose → WritesAll (back_lines now_coloring now_verbose reported (record { file = file; written = written })) mid new
    → SaysTo coloring verbose reported files i spoilt old mid → SaysTo coloring verbose reported files (i + 1) now_spoilt old new
says_more coloring verbose now_coloring now_verbose reported files i file written spoilt now_spoilt old mid new lt at more same_coloring same_verbose wrote before =
    let b : WriteBack = record { file = file; written = written } in
    let lines : WriteBack → List (List ℕ) = back_lines coloring verbose reported in
    record {
      backs = before.backs ++ b ∷ [];
      each = map-append (λ b. b.file) before.backs (b ∷ []) ∙ (ap (λ l. l ++ file ∷ []) before.each ∙ sym (one_more files i file lt at));
      refused = refused_last before.backs b ∙ (ap (λ l. l ++ cond written [] (file.path ∷ [])) before.refused ∙ sym more);
      said = subst (λ texts. WritesAll texts old new) (sym (flat_map-append lines before.backs (b ∷ []) ∙ ap (λ l. flat_map lines before.backs ++ l) (append-nil (lines b))))
          (wrote_more (flat_map lines before.backs) (lines b) old mid new before.said
          (subst (λ v. WritesAll (back_lines coloring v reported b) mid new) same_verbose (subst (λ k. WritesAll (back_lines k now_verbose reported b) mid new) same_coloring wrote)));
    }

-- all files were written back, or refused
pub says_all : {F : Type 0} (f : Filing F) (before after : F) (coloring : Coloring) (verbose : Bool) (reported : Option (List ℕ)) (files : List Kept) (i k : ℕ) (old new : Stream) → length files ≤ i
    → GrowsBy k (f.failed before) (f.failed after) → (b : BackBut (f.refuses before after) f.tells files i k (f.bytes_at before) (f.bytes_at after)) → SaysTo coloring verbose reported files i b.spoilt old new
    → SaysBack f before after coloring verbose reported files k old new
says_all f before after coloring verbose reported files i k old new end counted b says =
    let all = back_all (f.refuses before after) f.tells files i k (f.bytes_at before) (f.bytes_at after) end b in
    record {
      backs = says.backs;
      each = says.each ∙ take_all i files end;
      refused = subst (f.refuses before after) (sym says.refused) b.refused;
      number = ap length says.refused ∙ b.number;
      counted = counted;
      back = λ t distinct. subst (λ ps. Back files ps (f.bytes_at before) (f.bytes_at after)) (sym says.refused) (all.back t distinct);
      said = says.said;
    }
