use Rattle.std.proofs.Common.{◌≡◌, ◌↔◌, ◌+◌, ◌*◌, ◌≤◌, drop, take, map, length}
use Rattle.module_format.specs.Contents.{par_of}
use Rattle.module_format.specs.Order.{InOrder}
use Rattle.module_format.specs.OffsetSet.{IsSetOf}
use Rattle.module_format.specs.Pars.{ParKeeps, behind_par, no_branches, entries_of_rows}
use Rattle.module_format.specs.declared.limits.TheConstants.{MAX_BRANCHES}
use Rattle.module_format.proofs.keeping.pars.pars_keep.Given as goal

abbrev pub invariant-loop-row : goal.invariant-loop-row
invariant-loop-row l =
    let rows = map par_of l.rows in
    let entries = entries_of_rows (map par_of (take l.row-index l.rows)) in record {
      rest : InOrder (ParKeeps l.own l.code_len) behind_par no_branches rows
          ↔ InOrder (ParKeeps l.own l.code_len) behind_par (record { low = l.low; entries = entries })
          (drop l.row-index rows);
      taken : IsSetOf l.taken.words entries;
      contexts : l.contexts ≡ l.own + length entries;
      few : l.contexts ≤ l.own + l.row-index * MAX_BRANCHES;
    }
