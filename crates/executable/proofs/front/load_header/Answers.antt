use Rattle.executable.proofs.front.load_header.Goals as goal

pub returns : goal.returns
returns c = cc
