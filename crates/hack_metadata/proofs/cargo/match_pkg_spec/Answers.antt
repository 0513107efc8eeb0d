use Rattle.hack_metadata.proofs.cargo.match_pkg_spec.Goals as goal

pub returns-clause-matches : goal.returns-clause-matches
returns-clause-matches c = rw (c.as_str.ensures.value, c.as_str-2.ensures.value, c.as_str-3.ensures.value) at c.matches.ensures.matches
