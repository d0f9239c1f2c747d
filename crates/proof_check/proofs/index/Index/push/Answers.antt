use Rattle.std.proofs.Common.{◌≡◌, ◌<◌, ◌+◌, ◌++◌, ◌∷◌, [], List, ℕ, length, get_or, ap, sym, ◌∙◌, subst, refl, arith, length-append}
use Rattle.std.proofs.lemmas.List.{get_or_default}
use Rattle.proof_check.specs.Filing.{Chains, AreFiled}
use Rattle.proof_check.proofs.Chains.{filed_same, filed_more}
use Rattle.proof_check.proofs.index.Index.push.Goals as goal

pub returns-clause-ok : goal.returns-clause-ok
returns-clause-ok c =
    λ keys filed.
    let inside : Chains = record { lasts = c.self.inside.lasts.items; earlier = c.self.inside.earlier.items } in
    let now : Chains = record { lasts = c.reach.new.lasts.items; earlier = c.reserve.new.self.items } in
    let room : AreFiled keys now = filed_same keys inside c.reach.new.lasts.items c.reserve.new.self.items _ c.in_ok-reach.ensures.items c.in_ok-reserve.ensures.items (subst (λ (i : Chains). AreFiled keys i) (sym c.self.view_is) filed) in
    let within : c.args.key < length now.lasts = omega (arith, c.in_ok-reach.ensures.there, c.reach.new.lasts.ok) in
    let pushed : c.push.new.self.items ≡ now.earlier ++ c.index.result.now ∷ [] = rw c.unwrap.ensures at c.push.ensures.items in
    let put : c.push.new.self.items ≡ now.earlier ++ get_or now.lasts c.args.key 0 ∷ []
    = pushed ∙ ap (λ n. now.earlier ++ n ∷ []) (c.index.ensures ∙ get_or_default now.lasts c.args.key c.index.result.now 0 within) in
    let count : c.len.result ≡ length now.earlier + 1 = omega (arith, c.len.ensures, c.push.new.self.ok, ap (λ (ns : List ℕ). length ns) put, length-append now.earlier (get_or now.lasts c.args.key 0 ∷ [])) in
    filed_more keys c.args.key now _ c.push.new.self.items c.len.result room within count refl put
