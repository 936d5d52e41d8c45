use Rattle.std.proofs.Common.{◌≡◌, List, ℕ, Option, refl, subst}
use Rattle.std.specs.Io.Buffered.{reader_remaining}
use Rattle.store.specs.Draft.{Drafted, begun}
use Rattle.scripts.proofs.Pages.{unread_pages}
use Rattle.updates.specs.inside.Begun.{EndsBegun}
use Rattle.updates.specs.inside.Committed.{commit_result}
use Rattle.updates.proofs.Ended.{all, by_commit, by_fault, by_memory, by_refusal}
use Rattle.updates.proofs.run.run_opened.Goals as goal

-- a fact about the begun draft and the bytes of the pages is a fact about the registry and the reader
begins : {A B : Type 0} (P : A → B → Type 0) (a a' : A) (b b' : B) → a ≡ a' → b ≡ b' → P a b → P a' b'
begins P a a' b b' same_a same_b h = subst (P a') same_b (subst (λ x. P x b) same_a h)

pub returns-in_default : goal.returns-in_default
returns-in_default g c =
    by_memory g.D.Disk.facts g.O.Write.contents c.args.registry c.args.registry (g.I.Read.remaining c.args.input.now) (g.O.Write.contents c.args.output.now) (g.E.Write.contents c.args.errors.now)
    (g.E.Write.contents c.no_memory.new.errors) c.no_memory.result refl c.no_memory.ensures.status c.no_memory.ensures.said

pub returns-in-Err : goal.returns-in-Err
returns-in-Err g c =
    by_memory g.D.Disk.facts g.O.Write.contents c.args.registry _ (g.I.Read.remaining c.args.input.now) (g.O.Write.contents c.args.output.now) (g.E.Write.contents c.args.errors.now)
    (g.E.Write.contents c.no_memory-in-Err.new.errors) c.no_memory-in-Err.result c.in-Err.ensures.same c.no_memory-in-Err.ensures.status c.no_memory-in-Err.ensures.said

pub returns-in-Ok-Commit : goal.returns-in-Ok-Commit
returns-in-Ok-Commit g c =
    let w = g.O.Write.contents in
    let e = g.E.Write.contents in
    let pages = reader_remaining (λ r. g.I.Read.remaining r.now) c.in-Ok.pages in
    let unread = unread_pages (λ r. g.I.Read.remaining r.now) c.in-Ok.pages _ 65536 c.in-Ok.ensures.inner c.in-Ok.ensures.empty c.in-Ok.ensures.capacity refl in
    let made = c.commit_draft-answer in
    let told = c.report_commit in
    let ends = λ (u : Drafted g.row.D.Denot) (text : Option (List ℕ)). EndsBegun g.D.Disk.facts w u
    (all text (w c.args.output.now) (w told.new.output) (e c.args.errors.now) (e told.new.errors) told.result) told.result made.result.1 in
    begins ends c.in-Ok-update.update (begun c.args.registry) pages (g.I.Read.remaining c.args.input.now) c.in-Ok-update.ensures.begun unread
    (by_commit pages (w c.args.output.now) (w told.new.output) (e c.args.errors.now) (e told.new.errors) told.result g.D.Disk.facts w c.in-Ok-update.update c.answer_lines.new.update made.result.1
    c.answer_lines.new.output (commit_result made.result.0) (rw c.in-Ok-Commit.field-0-is at c.in-Ok-Commit.ensures.ok) made.ensures told.ensures)

pub returns-in-Ok-Refused : goal.returns-in-Ok-Refused
returns-in-Ok-Refused g c =
    let w = g.O.Write.contents in
    let e = g.E.Write.contents in
    let pages = reader_remaining (λ r. g.I.Read.remaining r.now) c.in-Ok.pages in
    let unread = unread_pages (λ r. g.I.Read.remaining r.now) c.in-Ok.pages _ 65536 c.in-Ok.ensures.inner c.in-Ok.ensures.empty c.in-Ok.ensures.capacity refl in
    let told = c.report_refusal in
    let ends = λ (u : Drafted g.row.D.Denot) (text : Option (List ℕ)). EndsBegun g.D.Disk.facts w u
    (all text (w c.args.output.now) (w told.new.output) (e c.args.errors.now) (e told.new.errors) told.result) told.result c.give_up.result in
    begins ends c.in-Ok-update.update (begun c.args.registry) pages (g.I.Read.remaining c.args.input.now) c.in-Ok-update.ensures.begun unread
    (by_refusal pages (w c.args.output.now) (w told.new.output) (e c.args.errors.now) (e told.new.errors) told.result g.D.Disk.facts w c.in-Ok-update.update c.answer_lines.new.update c.give_up.result
    c.give_up.ensures.same (w c.answer_lines.new.output) c.in-Ok-Refused.refusal (rw c.in-Ok-Refused.field-0-is at c.in-Ok-Refused.ensures.ok) told.ensures)

pub returns : goal.returns
returns g c =
    let w = g.O.Write.contents in
    let e = g.E.Write.contents in
    let pages = reader_remaining (λ r. g.I.Read.remaining r.now) c.in-Ok.pages in
    let unread = unread_pages (λ r. g.I.Read.remaining r.now) c.in-Ok.pages _ 65536 c.in-Ok.ensures.inner c.in-Ok.ensures.empty c.in-Ok.ensures.capacity refl in
    let said = c.say_fault in
    let left = c.give_up-in-Err-answer_lines in
    let ends = λ (u : Drafted g.row.D.Denot) (text : Option (List ℕ)). EndsBegun g.D.Disk.facts w u
    (all text (w c.args.output.now) (w c.answer_lines.new.output) (e c.args.errors.now) (e said.new.errors) said.result) said.result left.result in
    begins ends c.in-Ok-update.update (begun c.args.registry) pages (g.I.Read.remaining c.args.input.now) c.in-Ok-update.ensures.begun unread
    (by_fault pages (w c.args.output.now) (w c.answer_lines.new.output) (e c.args.errors.now) (e said.new.errors) said.result g.D.Disk.facts w c.in-Ok-update.update c.answer_lines.new.update left.result
    left.ensures.same c.in-Err-answer_lines.fault said.ensures.status said.ensures.said c.in-Err-answer_lines.ensures.err)
