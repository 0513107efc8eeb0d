use Rattle.std.proofs.Common.{option_map}
use Rattle.std.proofs.lemmas.Str.Ascii.{trim_ascii_end_is}
use Rattle.hack_pkgids.specs.Views.{identity_of, url_view}
use Rattle.hack_pkgids.proofs.MatchCases.{name-settles, url-settles}
use Rattle.hack_pkgids.proofs.pkgids.matches.Goals as goal

pub returns-in-Some : goal.returns-in-Some
returns-in-Some c =
    let all = name-settles (identity_of c.args.pkg) c.args.spec.now c.in-Some.rest.now c.match_behind_name.result c.in-Some.ensures c.match_behind_name.ensures in
    record { matches = all.matches; bad_id = all.bad_id; bad_version = all.bad_version }

pub returns-in-None : goal.returns-in-None
returns-in-None c =
    let all = url-settles (identity_of c.args.pkg) c.args.spec.now c.trim_ascii_end.result.now (option_map url_view c.of-given.result) (option_map url_view c.of.result) c.match_urls.result
    c.in-None.ensures (trim_ascii_end_is c.args.spec.now c.trim_ascii_end.result.now c.trim_ascii_end.ensures.value) c.of-given.ensures c.of.ensures c.match_urls.ensures in
    record { matches = all.matches; bad_id = all.bad_id; bad_version = all.bad_version }
