use Rattle.std.proofs.Common.{◌≡◌, ◌∙◌, ◌+◌, ◌++◌, ◌∷◌, [], List, ℕ, length, ap, arith, length-append}
use Rattle.cnf_form.specs.Literals.{Literal}
use Rattle.cnf_form.specs.Pieces.{clauses_in}
use Rattle.cnf_form.proofs.Pieces.{one_more, are_more}
use Rattle.cnf_form.proofs.clauses.Clauses.push_literals.Goals as goal

pub invariant_of-self-2 : goal.invariant_of-self-2
invariant_of-self-2 c =
    let ls = c.self.inside.literals.items in
    let ends = c.self.inside.ends.items in
    let read = c.args.literals.now in
    let more : c.extend_from_slice.new.self.items ≡ ls ++ read = c.in_ok-extend_from_slice.ensures.items in
    let pushed : c.push.new.self.items ≡ c.reserve.new.self.items ++ c.len.result ∷ [] = rw c.unwrap.ensures at c.push.ensures.items in
    let put : c.push.new.self.items ≡ ends ++ c.len.result ∷ [] = pushed ∙ ap (λ (es : List ℕ). es ++ c.len.result ∷ []) c.in_ok-reserve.ensures.items in
    let size : c.len.result ≡ length ls + length read
    = omega (arith, c.len.ensures, c.extend_from_slice.new.self.ok, ap (λ (x : List Literal). length x) more, length-append ls read) in
    rw (more, put) (are_more ls read ends c.len.result c.self.invariant c.requires size)

pub returns-clause-ok : goal.returns-clause-ok
returns-clause-ok c =
    let ls = c.self.inside.literals.items in
    let ends = c.self.inside.ends.items in
    let read = c.args.literals.now in
    let more : c.extend_from_slice.new.self.items ≡ ls ++ read = c.in_ok-extend_from_slice.ensures.items in
    let pushed : c.push.new.self.items ≡ c.reserve.new.self.items ++ c.len.result ∷ [] = rw c.unwrap.ensures at c.push.ensures.items in
    let put : c.push.new.self.items ≡ ends ++ c.len.result ∷ [] = pushed ∙ ap (λ (es : List ℕ). es ++ c.len.result ∷ []) c.in_ok-reserve.ensures.items in
    let size : c.len.result ≡ length ls + length read
    = omega (arith, c.len.ensures, c.extend_from_slice.new.self.ok, ap (λ (x : List Literal). length x) more, length-append ls read) in
    ap (λ (x : List Literal). clauses_in x c.push.new.self.items) more
    ∙ ap (clauses_in (ls ++ read)) put
    ∙ one_more ls read ends c.len.result c.self.invariant size
    ∙ ap (λ (cs : List (List Literal)). cs ++ read ∷ []) c.self.view_is
