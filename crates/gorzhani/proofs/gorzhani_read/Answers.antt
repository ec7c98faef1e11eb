-- `gorzhani_read` meets its contract: the block reader's answer, as a number.
use Rattle.gorzhani.proofs.Counts.{few, read_count}
use Rattle.gorzhani.proofs.gorzhani_read.Goals as goal

pub count_code-requires : goal.count_code-requires
count_code-requires c = few c.read.result (λ n e. read_count c.read.ensures e)
