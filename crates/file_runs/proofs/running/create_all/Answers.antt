use Rattle.std.proofs.lemmas.Result.{err_from_is_err_and}
use Rattle.file_runs.specs.FilesInOrder.{here, later}
use Rattle.file_runs.proofs.running.create_all.Goals as goal

pub returns-in_err-writers-clause-gives : goal.returns-in_err-writers-clause-gives
returns-in_err-writers-clause-gives g c =
    let p = err_from_is_err_and c.from_residual.result c.from_residual.ensures.1 in
    rw (p.1, p.2, c.requires) (here c.in_err-writers.ensures.gives)

pub returns-in_err-writers-2-clause-gives : goal.returns-in_err-writers-2-clause-gives
returns-in_err-writers-2-clause-gives g c =
    let p = err_from_is_err_and c.from_residual-in_err-writers-2.result c.from_residual-in_err-writers-2.ensures.1 in
    rw (p.1, p.2, c.requires) (later c.in_ok-writers.ensures.gives (here c.in_err-writers-2.ensures.gives))

pub returns-in_err-writers-3-clause-gives : goal.returns-in_err-writers-3-clause-gives
returns-in_err-writers-3-clause-gives g c =
    let p = err_from_is_err_and c.from_residual-in_err-writers-3.result c.from_residual-in_err-writers-3.ensures.1 in
    rw (p.1, p.2, c.requires) (later c.in_ok-writers.ensures.gives (later c.in_ok-writers-2.ensures.gives
    (here c.in_err-writers-3.ensures.gives)))

pub returns-in_err-writers-4-clause-gives : goal.returns-in_err-writers-4-clause-gives
returns-in_err-writers-4-clause-gives g c =
    let p = err_from_is_err_and c.from_residual-in_err-writers-4.result c.from_residual-in_err-writers-4.ensures.1 in
    rw (p.1, p.2, c.requires) (later c.in_ok-writers.ensures.gives (later c.in_ok-writers-2.ensures.gives
    (later c.in_ok-writers-3.ensures.gives
    (here c.in_err-writers-4.ensures.gives))))
