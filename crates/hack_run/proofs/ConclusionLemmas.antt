-- What searches come to, put together.
use Rattle.std.proofs.Common.{◌≡◌, ◌⊎◌, ℕ, Bool, Err, List, None, Ok, OnErr, OnOk, Option, Result, ap, false, if◌then◌else◌, inl, inr, refl, subst, sym, true}
use Rattle.std.specs.Prelude.{Contains, MatchBool, ◌≢◌}
use Rattle.std.specs.List.{list_any}
use Rattle.std.proofs.lemmas.List.Elements.{All-weaker}
use Rattle.std.proofs.lemmas.List.Folds.{list_any-from_Any, list_any_none}
use Rattle.hack_base.specs.Names.{Name}
use Rattle.hack_base.specs.Notes.{Note}
use Rattle.hack_base.specs.Streams.{Stream, WritesAll, stream_of}
use Rattle.hack_base.specs.declared.writes.Sink.{Ghosts as Taking}
use Rattle.hack_load.specs.Contexts.{ContextRecord}
use Rattle.hack_msrv.specs.Searches.{AreUnbroken}
use Rattle.hack_msrv.specs.declared.found.Found.{Found}
use Rattle.hack_msrv.specs.declared.found.Found.TheVariants.{Untried, Least, Nowhere, Broken}
use Rattle.hack_plan.specs.View.{PlanView}
use Rattle.hack_report.specs.Findings.{found_remarks}
use Rattle.hack_process.specs.declared.fault.ProcessFault.{ProcessFault}
use Rattle.hack_session.specs.Histories.{Course}
use Rattle.hack_term.specs.declared.term.Coloring.{Coloring}
use Rattle.hack_term.specs.declared.term.Term.{Term}
use Rattle.hack_run.specs.Conclusions.{AreBrokenOff, Conclusion, ConcludesSo, IsBrokenOff, SaysConclusion, SaysSearch, broken_after, finds, hunt_conclusion, is_broken, version_conclusion}
use Rattle.hack_run.specs.Handed.{IsHuntedOut, IsSearchedOut}

-- searches for the least versions
pub concluded_search : (cx : ContextRecord) (rustup : Name) (course : Course) (notes : List Note) (fails warns ended : Bool) → cx.args.find_conflicts ≡ false → (s : IsSearchedOut false cx course.plan course.handed fails warns)
    → (IsBrokenOff (version_conclusion cx course.plan s.found) → AreBrokenOff course.handed ended) → (ended ≡ true → IsBrokenOff (version_conclusion cx course.plan s.found)) → ConcludesSo cx rustup course notes fails warns ended (version_conclusion cx course.plan s.found)
concluded_search cx rustup course notes fails warns ended apart s broken stops = (
  subst (λ (b : Bool). MatchBool b
      ((hunt : IsHuntedOut false cx rustup course notes fails warns) × (version_conclusion cx course.plan s.found ≡ hunt_conclusion cx.args.verbose course.plan hunt.came))
      ((search : IsSearchedOut false cx course.plan course.handed fails warns) × (version_conclusion cx course.plan s.found ≡ version_conclusion cx course.plan search.found))) (sym apart) (s, refl),
  broken,
  stops,
)

-- searches for conflicts
pub concluded_hunt : (cx : ContextRecord) (rustup : Name) (course : Course) (notes : List Note) (fails warns ended : Bool) → cx.args.find_conflicts ≡ true → (h : IsHuntedOut false cx rustup course notes fails warns)
    → (IsBrokenOff (hunt_conclusion cx.args.verbose course.plan h.came) → AreBrokenOff course.handed ended) → (ended ≡ true → IsBrokenOff (hunt_conclusion cx.args.verbose course.plan h.came)) → ConcludesSo cx rustup course notes fails warns ended (hunt_conclusion cx.args.verbose course.plan h.came)
concluded_hunt cx rustup course notes fails warns ended on h broken stops = (
  subst (λ (b : Bool). MatchBool b
      ((hunt : IsHuntedOut false cx rustup course notes fails warns) × (hunt_conclusion cx.args.verbose course.plan h.came ≡ hunt_conclusion cx.args.verbose course.plan hunt.came))
      ((search : IsSearchedOut false cx course.plan course.handed fails warns) × (hunt_conclusion cx.args.verbose course.plan h.came ≡ version_conclusion cx course.plan search.found))) (sym on) (h, refl),
  broken,
  stops,
)

-- what is said of a search, where its lines go after its steps
pub search_said : {E : Type 0} (e : Taking E) (conclusion : Conclusion) (starved : Bool) (left : Option ProcessFault) (reported : Bool) (coloring : Coloring) (a b : Term) (was kept : Option ProcessFault) (x y : E) (new : Stream)
    → a ≡ b → b.coloring ≡ coloring → was ≡ kept → x ≡ y → SaysSearch starved conclusion a.coloring was a.error left reported (stream_of e x) new → SaysSearch starved conclusion coloring kept b.error left reported (stream_of e y) new
search_said e conclusion starved left reported coloring a b was kept x y new term_is coloring_is kept_is err_is said =
    subst (λ (c : Coloring). SaysSearch starved conclusion c kept b.error left reported (stream_of e y) new) coloring_is
    (subst (λ (t : Term). SaysSearch starved conclusion t.coloring kept t.error left reported (stream_of e y) new) term_is
    (subst (λ (o : Option ProcessFault). SaysSearch starved conclusion a.coloring o a.error left reported (stream_of e y) new) kept_is
    (subst (λ z. SaysSearch starved conclusion a.coloring was a.error left reported (stream_of e z) new) err_is said)))

whole-one : (one : Found) → one ≢ Broken → is_broken one ≡ false
whole-one Untried whole = refl
whole-one (Least version failed) whole = refl
whole-one (Nowhere version failed) whole = refl
whole-one Broken whole = absurd (whole refl)

pub broken_one : (found : List Found) → Contains found Broken → list_any is_broken found ≡ true
broken_one found has = list_any-from_Any is_broken found (has.0, Broken, has.1, has.2, refl)

pub none_broken : (found : List Found) → AreUnbroken found → list_any is_broken found ≡ false
none_broken found whole = list_any_none is_broken found (All-weaker (λ (one : Found). one ≢ Broken) (λ (one : Found). is_broken one ≡ false) whole-one found whole)

-- ---- what is said of a conclusion

module _ (coloring : Coloring) (was left : Option ProcessFault) (told reported : Bool) (old new : Stream) where
  -- memory was refused for a step
  pub says_starved : (starved : Bool) (conclusion : Conclusion) → starved ≡ true → left ≡ None → reported ≡ true → new ≡ old → SaysSearch starved conclusion coloring was told left reported old new
  says_starved starved conclusion is none noted same =
      subst (λ (b : Bool). MatchBool b ((left ≡ None) × (reported ≡ true) × (new ≡ old)) (SaysConclusion conclusion coloring was told left reported old new)) (sym is) (none, noted, same)

  -- a conclusion is known
  pub says_known : (starved : Bool) (conclusion known : Conclusion) → starved ≡ false → conclusion ≡ known → SaysConclusion known coloring was told left reported old new → SaysSearch starved conclusion coloring was told left reported old new
  says_known starved conclusion known is same said =
      subst (λ (b : Bool). MatchBool b ((left ≡ None) × (reported ≡ true) × (new ≡ old)) (SaysConclusion conclusion coloring was told left reported old new)) (sym is)
      (subst (λ (x : Conclusion). SaysConclusion x coloring was told left reported old new) (sym same) said)

-- lines on what was found were said, or that memory was refused for them
pub lines_said : {T F E : Type 0} (e : Taking E) (r : Result T F) (lines : List (List ℕ)) (starved : List (List ℕ)) (told reported : Bool) (a m b : E) → OnOk r (WritesAll lines (stream_of e a) (stream_of e m)) → OnErr r (m ≡ a)
    → OnOk r ((reported ≡ told) × (b ≡ m)) → OnErr r ((reported ≡ true) × WritesAll starved (stream_of e m) (stream_of e b))
    → ((reported ≡ told) × WritesAll lines (stream_of e a) (stream_of e b)) ⊎ ((reported ≡ true) × WritesAll starved (stream_of e a) (stream_of e b))
lines_said e (Ok noted) lines starved told reported a m b wrote none kept cut = inl (kept.0, subst (λ x. WritesAll lines (stream_of e a) (stream_of e x)) (sym kept.1) wrote)
lines_said e (Err x) lines starved told reported a m b wrote none kept cut = inr (cut.0, subst (λ y. WritesAll starved (stream_of e y) (stream_of e b)) none cut.1)

-- searches for the least versions that were broken off, or weren't
pub version_broken : (cx : ContextRecord) (plan : PlanView) (found : List Found) → list_any is_broken found ≡ true → version_conclusion cx plan found ≡ broken_after (found_remarks cx plan 0 found)
version_broken cx plan found is = ap (λ (b : Bool). (if b then broken_after else finds) (found_remarks cx plan 0 found)) is

pub version_found : (cx : ContextRecord) (plan : PlanView) (found : List Found) → list_any is_broken found ≡ false → version_conclusion cx plan found ≡ finds (found_remarks cx plan 0 found)
version_found cx plan found is = ap (λ (b : Bool). (if b then broken_after else finds) (found_remarks cx plan 0 found)) is
