use Rattle.file_disk.proofs.MemoryFiles.{found_with}
use Rattle.file_disk.proofs.memory_file.MemoryFile.new.Goals as goal

pub returns-clause-reopen : goal.returns-clause-reopen
returns-clause-reopen g contents starts = found_with g.args.medium g.new.result.items _ contents starts
