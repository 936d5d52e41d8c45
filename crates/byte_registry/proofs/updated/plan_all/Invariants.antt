use Rattle.std.proofs.Common.{List, map, take}
use Rattle.byte_disk.specs.ByteDisk.{byte_facts}
use Rattle.requests.specs.Request.{request_of}
use Rattle.requests.specs.declared.reply.Reply.{Reply}
use Rattle.registry.specs.Updating.{Plans}
use Rattle.byte_registry.proofs.updated.plan_all.Given as goal

abbrev pub invariant-loop-place : goal.invariant-loop-place
invariant-loop-place l = (answers : List Reply) × Plans byte_facts l.fn.update l.update (map request_of (take l.place l.commands)) answers
