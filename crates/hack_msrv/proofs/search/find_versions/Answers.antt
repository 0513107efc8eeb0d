use Rattle.hack_msrv.proofs.SearchLemmas.{searches-ran}
use Rattle.hack_msrv.proofs.search.find_versions.Goals as goal

pub returns-clause-searched : goal.returns-clause-searched
returns-clause-searched g c =
    let s = c.search_all.ensures.searched in
    record {
      searches = s.searches;
      tried = s.tried;
      whole = searches-ran g.R.Runner.ran g.R.Judge.ended g.met.R.Runner.ran_none g.met.R.Runner.ran_more c.args.plan.now 0 s.searches c.args.runner.now c.search_all.new.runner s.tried;
      say = s.say;
      end = c.search_all.ensures.end;
    }
