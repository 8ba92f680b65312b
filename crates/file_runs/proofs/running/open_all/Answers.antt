use Rattle.std.proofs.lemmas.Result.{err_from_is_err_and}
use Rattle.file_runs.specs.FilesInOrder.{here, later}
use Rattle.file_runs.proofs.running.open_all.Goals as goal

pub returns-in_err-readers-clause-gives : goal.returns-in_err-readers-clause-gives
returns-in_err-readers-clause-gives g c =
    let p = err_from_is_err_and c.from_residual.result c.from_residual.ensures.1 in
    rw (p.1, p.2, c.requires) (here c.in_err-readers.ensures.gives)

pub returns-in_err-readers-2-clause-gives : goal.returns-in_err-readers-2-clause-gives
returns-in_err-readers-2-clause-gives g c =
    let p = err_from_is_err_and c.from_residual-in_err-readers-2.result c.from_residual-in_err-readers-2.ensures.1 in
    rw (p.1, p.2, c.requires) (later c.in_ok-readers.ensures.gives (here c.in_err-readers-2.ensures.gives))

pub returns-in_err-readers-3-clause-gives : goal.returns-in_err-readers-3-clause-gives
returns-in_err-readers-3-clause-gives g c =
    let p = err_from_is_err_and c.from_residual-in_err-readers-3.result c.from_residual-in_err-readers-3.ensures.1 in
    rw (p.1, p.2, c.requires) (later c.in_ok-readers.ensures.gives (later c.in_ok-readers-2.ensures.gives
    (here c.in_err-readers-3.ensures.gives)))

pub returns-in_err-readers-4-clause-gives : goal.returns-in_err-readers-4-clause-gives
returns-in_err-readers-4-clause-gives g c =
    let p = err_from_is_err_and c.from_residual-in_err-readers-4.result c.from_residual-in_err-readers-4.ensures.1 in
    rw (p.1, p.2, c.requires) (later c.in_ok-readers.ensures.gives (later c.in_ok-readers-2.ensures.gives
    (later c.in_ok-readers-3.ensures.gives
    (here c.in_err-readers-4.ensures.gives))))
