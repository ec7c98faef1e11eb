-- `files::file_size_right` meets its contract.
use Rattle.std.proofs.Common.{rules}
use borrow.Author.Tests.{tests}
use Rattle.files.specs.FileRefusals.{file_size_right}
use Rattle.files.proofs.reader.file_size_right.Goals as goal

pub returns-then-s-eq0 : goal.returns-then-s-eq0
unfolding file_size_right
returns-then-s-eq0 c = search (rules, tests)

pub returns-else-s-eq0 : goal.returns-else-s-eq0
unfolding file_size_right
returns-else-s-eq0 c = search (rules, tests)
