use Rattle.executable.specs.File.{header_bytes}
use Rattle.executable.proofs.Chains.{eight, on-ok}
use Rattle.executable.proofs.front.put_program_header.Goals as goal

pub returns : goal.returns
unfolding header_bytes
returns c =
    on-ok c.put_u64-6.result
    (λ last. eight _ _ _ _ _ _ _ _ _ _ _ _ _ _ _ _ _ c.in_ok-put_u32.ensures c.in_ok-put_u32-2.ensures c.in_ok-put_u64.ensures
    c.in_ok-put_u64-2.ensures c.in_ok-put_u64-3.ensures c.in_ok-put_u64-4.ensures c.in_ok-put_u64-5.ensures last)
    c.put_u64-6.ensures
