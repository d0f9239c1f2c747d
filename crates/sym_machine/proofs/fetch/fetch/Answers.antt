use Rattle.std.proofs.Common.{◌∙◌, sym}
use Rattle.sym_state.proofs.Opening.{stands-bytes}
use Rattle.sym_machine.proofs.Fetches.{code_word, fetch_misaligned, fetch_refused, word_first}
use Rattle.sym_machine.proofs.Standing.{knows-grown}
use Rattle.sym_state.proofs.Grown.{still_stands}
use Rattle.sym_machine.proofs.fetch.fetch.Goals as goal

pub returns-then-pc-ne0-clause-ok : goal.returns-then-pc-ne0-clause-ok
returns-then-pc-ne0-clause-ok c = fetch_misaligned c.args.state.now (rw c.pc-pc.ensures.value at c.if-pc-ne0.true)

pub returns-in-Closed-clause-ok : goal.returns-in-Closed-clause-ok
returns-in-Closed-clause-ok c =
    fetch_refused c.args.state.now (rw c.pc-pc.ensures.value at c.if-pc-ne0.false) (rw (c.in-Closed.is, c.pc-pc.ensures.value) at c.code.ensures.code)

pub number_at-requires-clause-knows : goal.number_at-requires-clause-knows
number_at-requires-clause-knows c =
    let made = rw (c.code.ensures.same, c.pc-pc.ensures.value) at c.in_ok-value-in-Bytes.ensures.ok in
    knows-grown c.args.state.now c.word.new.state made.grown c.requires.knows

pub number_at-requires-clause-stands : goal.number_at-requires-clause-stands
number_at-requires-clause-stands c =
    let pc = c.pc-pc.ensures.value in
    let made = rw (c.code.ensures.same, pc) at c.in_ok-value-in-Bytes.ensures.ok in
    word_first c.args.state.now c.word.new.state c.in_ok-value-in-Bytes.value made.grown
    (rw pc at c.if-pc-ne0.false) (rw (c.in-Bytes.is, pc) at c.code.ensures.code)
    (λ input stands. made.gives.worth input (stands-bytes c.args.state.now input stands))

pub returns-in-Word-clause-ok : goal.returns-in-Word-clause-ok
returns-in-Word-clause-ok c =
    let code = rw (c.in-Word.is, c.pc-pc.ensures.value) at c.code.ensures.code in
    record {
      aligned = rw c.pc-pc.ensures.value at c.if-pc-ne0.false;
      can = code.0;
      is = λ input stands. code_word c.args.state.now c.in-Word.word input code.1;
    }

pub returns-in_ok-number_at-in-Bytes-clause-ok : goal.returns-in_ok-number_at-in-Bytes-clause-ok
returns-in_ok-number_at-in-Bytes-clause-ok c =
    let old = c.args.state.now in
    let pc = c.pc-pc.ensures.value in
    let made = rw (c.code.ensures.same, pc) at c.in_ok-value-in-Bytes.ensures.ok in
    record {
      aligned = rw pc at c.if-pc-ne0.false;
      can = rw (c.in-Bytes.is, pc) at c.code.ensures.code;
      is = λ input stands.
          sym (made.gives.worth input (stands-bytes old input stands))
          ∙ c.in_ok-number_at-in-Bytes.ensures.ok input (still_stands old c.word.new.state input made.grown stands);
    }
