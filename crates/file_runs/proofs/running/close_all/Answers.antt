use Rattle.file_runs.proofs.FilesClosed.{all_closed, first_is, second_is, third_is, fourth_is, none_is}
use Rattle.file_runs.proofs.running.close_all.Goals as goal

pub returns-then-not-first : goal.returns-then-not-first
returns-then-not-first g c = (
  _,
  (
    all_closed g.F.Files.calls.closes _ _ _ _ _ _ _ _ _ _ _ _ _ c.close-first.ensures.closes
        c.close-first.ensures.elsewhere c.close-second.ensures.closes c.close-second.ensures.elsewhere
        c.close-third.ensures.closes c.close-third.ensures.elsewhere c.close-fourth.ensures.closes,
    first_is _ _ _ _ c.if-not-first.true,
  ),
)

pub returns-then-not-second : goal.returns-then-not-second
returns-then-not-second g c = (
  _,
  (
    all_closed g.F.Files.calls.closes _ _ _ _ _ _ _ _ _ _ _ _ _ c.close-first.ensures.closes
        c.close-first.ensures.elsewhere c.close-second.ensures.closes c.close-second.ensures.elsewhere
        c.close-third.ensures.closes c.close-third.ensures.elsewhere c.close-fourth.ensures.closes,
    second_is _ _ _ _ c.if-not-first.false c.if-not-second.true,
  ),
)

pub returns-then-not-third : goal.returns-then-not-third
returns-then-not-third g c = (
  _,
  (
    all_closed g.F.Files.calls.closes _ _ _ _ _ _ _ _ _ _ _ _ _ c.close-first.ensures.closes
        c.close-first.ensures.elsewhere c.close-second.ensures.closes c.close-second.ensures.elsewhere
        c.close-third.ensures.closes c.close-third.ensures.elsewhere c.close-fourth.ensures.closes,
    third_is _ _ _ _ c.if-not-first.false c.if-not-second.false c.if-not-third.true,
  ),
)

pub returns-then-not-fourth : goal.returns-then-not-fourth
returns-then-not-fourth g c = (
  _,
  (
    all_closed g.F.Files.calls.closes _ _ _ _ _ _ _ _ _ _ _ _ _ c.close-first.ensures.closes
        c.close-first.ensures.elsewhere c.close-second.ensures.closes c.close-second.ensures.elsewhere
        c.close-third.ensures.closes c.close-third.ensures.elsewhere c.close-fourth.ensures.closes,
    fourth_is _ _ _ _ c.if-not-first.false c.if-not-second.false c.if-not-third.false c.if-not-fourth.true,
  ),
)

pub returns-else-not-fourth : goal.returns-else-not-fourth
returns-else-not-fourth g c = (
  _,
  (
    all_closed g.F.Files.calls.closes _ _ _ _ _ _ _ _ _ _ _ _ _ c.close-first.ensures.closes
        c.close-first.ensures.elsewhere c.close-second.ensures.closes c.close-second.ensures.elsewhere
        c.close-third.ensures.closes c.close-third.ensures.elsewhere c.close-fourth.ensures.closes,
    none_is _ _ _ _ c.if-not-first.false c.if-not-second.false c.if-not-third.false c.if-not-fourth.false,
  ),
)
