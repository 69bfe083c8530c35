use Rattle.report.proofs.Cut.{cut}
use Rattle.report.proofs.streams.read_list.Goals as goal

pub returns-clause-bytes : goal.returns-clause-bytes
returns-clause-bytes g c =
    cut g.R.Read.remaining c.args.input c.take.result _ _ _ _ c.take.ensures.inner c.take.ensures.limit c.clear.ensures c.in_ok-copy.ensures.bytes c.truncate.ensures.items
