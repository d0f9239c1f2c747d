use Rattle.std.proofs.Common.{rules}
use Rattle.std.proofs.lemmas.List.Sorted.{answers_always}
use Rattle.rv_machine.proofs.Finding.{place_found, place_missing}
use Rattle.rv_machine.proofs.memory.search.Goals as goal

pub returns-in-Ok-clause-found : goal.returns-in-Ok-clause-found
returns-in-Ok-clause-found c =
    place_found c.args.pages.now c.requires c.args.number c.in-Ok.place c.in-Ok.ensures.bound
    (c.in-Ok.ensures.position (λ page. page.0) (answers_always _ _ _ (λ f a r g called. search rules)))

pub returns-in-Err-clause-absent : goal.returns-in-Err-clause-absent
returns-in-Err-clause-absent c =
    place_missing c.args.pages.now c.requires c.args.number c.in-Err.field-0 c.in-Err.ensures.bound
    (c.in-Err.ensures.position (λ page. page.0) (answers_always _ _ _ (λ f a r g called. search rules)))
