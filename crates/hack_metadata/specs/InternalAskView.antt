-- A question in the code as plain data.
use Rattle.std.specs.Prelude.{Some, map, string_bytes}
use Rattle.hack_base.specs.Names.{optional_text}
use Rattle.hack_metadata.specs.Requests.{Question}
use Rattle.hack_metadata.specs.declared.ask.Question.{Question as Asking}

-- a question as plain data, which knows the arguments of its full request
abbrev pub question_of : Asking → Question
question_of q = record {
  cargo = string_bytes q.env.now.cargo;
  rustup = string_bytes q.env.now.rustup;
  cargo_version = q.cargo_version;
  deps = q.args.now.include_deps_features;
  dir = string_bytes q.env.now.current_dir;
  verbose = q.args.now.verbose;
  path = optional_text q.args.now.manifest_path;
  full = Some (map string_bytes q.full.items);
}
