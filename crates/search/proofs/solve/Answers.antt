use Rattle.search.proofs.Solves.{none_found, way_ready, runs_ready, solved}
use Rattle.search.proofs.solve.Goals as goal

pub returns-then-cost-ge-NONE : goal.returns-then-cost-ge-NONE
returns-then-cost-ge-NONE c = none_found c.requires c.cheapest-reached.ensures c.if-cost-ge-NONE.true

pub way_back-first-requires : goal.way_back-first-requires
way_back-first-requires c = way_ready c.requires c.cheapest-reached.ensures c.if-cost-ge-NONE.false

pub finish_runs-runs-requires : goal.finish_runs-runs-requires
finish_runs-runs-requires c = runs_ready c.requires c.cheapest-reached.ensures c.if-cost-ge-NONE.false c.way_back-first.ensures

pub returns : goal.returns
returns c = solved c.requires c.cheapest-reached.ensures c.if-cost-ge-NONE.false c.way_back-first.ensures c.finish_runs-runs.ensures
