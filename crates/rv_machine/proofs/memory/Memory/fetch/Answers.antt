use Rattle.std.proofs.Common.{◌∙◌}
use Rattle.rv_machine.specs.Pages.{byte_on, flags_on}
use Rattle.rv_machine.proofs.Fetching.{fetch_misaligned, fetch_unmapped, fetch_refused, fetched_word}
use Rattle.rv_machine.proofs.Looking.{looked}
use Rattle.rv_machine.proofs.memory.Memory.fetch.Goals as goal

pub returns-then-pc-ne0-clause-value : goal.returns-then-pc-ne0-clause-value
returns-then-pc-ne0-clause-value c = fetch_misaligned (flags_on c.args.self.now) (byte_on c.args.self.now) c.args.pc c.if-pc-ne0.true

pub returns-in_default-clause-value : goal.returns-in_default-clause-value
returns-in_default-clause-value c =
    fetch_unmapped c.args.self.now c.args.pc c.if-pc-ne0.false
    (looked c.args.self.now c.self.inside.pages.items _ _ c.self.view_is (rw c.deref.ensures.value at c.in_default.ensures))

pub returns-then-page-ne-EXECUTE-clause-value : goal.returns-then-page-ne-EXECUTE-clause-value
returns-then-page-ne-EXECUTE-clause-value c =
    fetch_refused c.args.self.now c.args.pc c.in-Some.page.now c.if-pc-ne0.false
    (looked c.args.self.now c.self.inside.pages.items _ _ c.self.view_is (rw c.deref.ensures.value at c.in-Some.ensures)) c.if-page-ne-EXECUTE.true

pub returns-clause-value : goal.returns-clause-value
returns-clause-value c =
    c.ok_or.ensures.value
    ∙ fetched_word c.args.self.now c.args.pc c.in-Some.page.now c.word.result c.decode.result
    (looked c.args.self.now c.self.inside.pages.items _ _ c.self.view_is (rw c.deref.ensures.value at c.in-Some.ensures))
    c.if-pc-ne0.false c.if-page-ne-EXECUTE.false c.word.ensures c.decode.ensures.value
