use Rattle.certified_scopes.proofs.Indices.{indices_stay}
use Rattle.certified_scopes.proofs.Excluded.{excluded_is_narrowed}
use Rattle.certified_scopes.proofs.Within.{scopes_lie_within}
use Rattle.certified_scopes.proofs.laws.scopes_lie_within_others.Goals as goal

pub returns-clause-indices : goal.returns-clause-indices
returns-clause-indices c = indices_stay

pub returns-clause-within : goal.returns-clause-within
returns-clause-within c = scopes_lie_within

pub returns-clause-excluded : goal.returns-clause-excluded
returns-clause-excluded c = excluded_is_narrowed
