use Rattle.std.proofs.Common.{arith, ap, ◌≡◌, ◌+◌, ◌∙◌}
use Rattle.cow_vec.specs.declared.list.CowVec.TheInside.{Inside}
use Rattle.cow_vec.proofs.ChunkWrites.{Pushes, pushes_chunk, pushes_to_last}
use Rattle.cow_vec.proofs.list.CowVec.push.Goals as goal
use Rattle.cow_vec.proofs.list.CowVec.push.Goals.{then-self-eq0+in_ok-push, else-self-eq0+in_ok-push_to}

pub returns-clause-ok : goal.returns-clause-ok
returns-clause-ok g c =
    let next : c.in-Some.len ≡ c.self.inside.len + 1 = omega (arith, c.in-Some.ensures) in
    let pushes : Pushes c.self.inside.chunks c.if-self-eq0.self-inside.chunks c.self.inside.len c.in-Some.len c.args.value =
    elim c.if-self-eq0.branch [
      | then-self-eq0+in_ok-push w ↦
          pushes_chunk _ _ c.self.inside.len _ c.args.value c.self.invariant w.if-self-eq0.true next
          (ap (λ (s : Inside g.row.T.Denot). s.chunks) w.self-inside-is ∙ w.in_ok-push.ensures.ok)
      | else-self-eq0+in_ok-push_to w ↦
          pushes_to_last _ _ c.self.inside.len _ c.args.value c.self.invariant w.if-self-eq0.false next
          (ap (λ (s : Inside g.row.T.Denot). s.chunks) w.self-inside-is ∙ w.in_ok-push_to.ensures.ok)
    ] in
    rw (← c.self.view_is) pushes.items
