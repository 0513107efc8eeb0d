-- What is told of an error, and what can be done about it.
use Rattle.std.proofs.Common.{◌≡◌, ◌∙◌, ℕ, Bool, List, None, Option, Some, ap, codes, false, if◌then◌else◌, map, option_map, refl, string_bytes, subst, sym, true}
use Rattle.std.specs.Prelude.{◌&&◌, IfSome, nat_eq}
use Rattle.std.specs.List.{starts_with}
use Rattle.std.specs.Str.{bytes_eq}
use Rattle.hack_base.specs.Names.{Name}
use Rattle.hack_words.specs.declared.cli.env.Env.{Env}
use Rattle.hack_files.specs.Faults.{file_text}
use Rattle.hack_files.specs.declared.fs.FsFault.{FsFault}
use Rattle.hack_run.specs.Errors.{choice_of, failed_file, is_memory, own_text, text_of}
use Rattle.hack_run.specs.declared.fault.RunFault.{RunFault}
use Rattle.std.specs.Option.{option_or, option_to_list}
use Rattle.hack_base.specs.Streams.{Stream, WritesAll, WritesText}
use Rattle.hack_term.specs.Lines.{info_line}
use Rattle.hack_term.specs.declared.term.Coloring.{Coloring}

-- a line of advice was said
pub advised : (coloring : Coloring) (advice : Option (List ℕ)) (text : List ℕ) (old new : Stream) → Some text ≡ advice → WritesText (info_line coloring text) old new → WritesAll (map (info_line coloring) (option_to_list advice)) old new
advised coloring advice text old new is wrote = subst (λ (o : Option (List ℕ)). WritesAll (map (info_line coloring) (option_to_list o)) old new) is (new, wrote, refl)

-- there was none to say
pub unadvised : (coloring : Coloring) (advice : Option (List ℕ)) (old new : Stream) → None ≡ advice → new ≡ old → WritesAll (map (info_line coloring) (option_to_list advice)) old new
unadvised coloring advice old new is same = subst (λ (o : Option (List ℕ)). WritesAll (map (info_line coloring) (option_to_list o)) old new) is same

-- what to say where a variable chose the program
pub unchosen : (env : Env) (command : Name) → (bytes_eq (string_bytes env.cargo) (codes "cargo") && starts_with nat_eq command (codes "`cargo ")) ≡ false
    → (bytes_eq (string_bytes env.rustup) (codes "rustup") && starts_with nat_eq command (codes "`rustup ")) ≡ false
    → codes "cargo is chosen by CARGO_HACK_CARGO_SRC or CARGO, and rustup by CARGO_HACK_RUSTUP" ≡ choice_of env command
unchosen env command cargo rustup = sym (
    ap (λ (b : Bool). if b then codes "no `cargo` is in the `PATH`" else if bytes_eq (string_bytes env.rustup) (codes "rustup") && starts_with nat_eq command (codes "`rustup ") then codes "no `rustup` is in the `PATH`"
    else codes "cargo is chosen by CARGO_HACK_CARGO_SRC or CARGO, and rustup by CARGO_HACK_RUSTUP") cargo
    ∙ ap (λ (b : Bool). if b then codes "no `rustup` is in the `PATH`" else codes "cargo is chosen by CARGO_HACK_CARGO_SRC or CARGO, and rustup by CARGO_HACK_RUSTUP") rustup
    )

-- a text that is known by another name
pub still_known : (o : Option (List ℕ)) (text bytes : List ℕ) → text ≡ bytes → IfSome o (λ known. bytes ≡ known) → IfSome o (λ known. text ≡ known)
still_known (Some known) text bytes same is = same ∙ is
still_known None text bytes same is = tt

-- the text of a file's error
pub file_told : (fault : RunFault) (failed : FsFault) → Some failed ≡ failed_file fault → IfSome (text_of fault) (λ known. file_text failed ≡ known)
file_told fault failed is =
    subst (λ o. IfSome (option_or (option_map file_text o) (if is_memory fault then Some (codes "out of memory") else own_text fault)) (λ known. file_text failed ≡ known)) is refl
