use Rattle.file_access.proofs.FirstBytes.{rest_is_read}
use Rattle.file_access.proofs.extent.read_rest.Goals as goal

pub returns : goal.returns
returns g c = rest_is_read (g.R.Read.remaining c.args.file) 1048573 _ _
    (rw (c.take-front.ensures.limit, c.take-front.ensures.inner) at c.in_ok-read_to_end.ensures.bytes)
