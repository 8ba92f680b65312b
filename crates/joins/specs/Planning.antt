-- What a start goes by, as the definitions have it.
use Rattle.std.specs.Prelude.{ℕ, List}
use Rattle.module_format.specs.Contents.{par_of}
use Rattle.machine_state.specs.StartPlans.{Plan}
use Rattle.machine_state.specs.Views.{holding_view}
use Rattle.joins.specs.declared.plan.Plan as kept

-- with these members, on which nothing is tested
abbrev pub plan_view : List ℕ → kept.Plan → Plan
plan_view members p = record {
  row = p.row;
  par = par_of p.par.now;
  base = p.frame.base;
  parameters = p.frame.parameters.now;
  addresses = p.frame.addresses.now;
  started = p.started;
  rest = holding_view p.rest.now;
  members = members;
}
