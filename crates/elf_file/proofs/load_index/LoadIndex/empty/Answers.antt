use Rattle.std.proofs.Common.{rules, arith}
use Rattle.elf_file.proofs.load_index.LoadIndex.empty.Goals as goal

pub returns : goal.returns
returns c = λ file. record {
  first_size = search rules;
  fits = search rules;
  load = λ b lt. absurd (omega (arith, lt));
  within = λ b lt. absurd (omega (arith, lt));
  room = λ b lt. absurd (omega (arith, lt));
  apart = λ a b less lt. absurd (omega (arith, lt));
  all = λ j lt is. absurd (omega (arith, lt));
}
