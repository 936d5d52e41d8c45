use Rattle.std.proofs.Common.{rules}
use Rattle.elf_dynamic.specs.HashTable.{hash_head_bytes, hash_bytes, hash_table, bucket_count, chain_count}
use Rattle.elf_dynamic.proofs.hash_table.HashTable.find.Goals as goal

pub returns-in_default : goal.returns-in_default
unfolding hash_head_bytes hash_bytes hash_table bucket_count chain_count
returns-in_default c = search rules

pub returns-in-Some-bytes_at : goal.returns-in-Some-bytes_at
unfolding hash_head_bytes hash_bytes hash_table bucket_count chain_count
returns-in-Some-bytes_at c = search rules

pub returns-in-None : goal.returns-in-None
unfolding hash_head_bytes hash_bytes hash_table bucket_count chain_count
returns-in-None c = search rules
