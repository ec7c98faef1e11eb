-- `gorzhani_write` meets its contract: the writer's answer, as a number.
use Rattle.gorzhani.proofs.Counts.{few, write_count}
use Rattle.gorzhani.proofs.gorzhani_write.Goals as goal

pub count_code-requires : goal.count_code-requires
count_code-requires c = few c.write.result (λ n e. write_count c.write.ensures e)
