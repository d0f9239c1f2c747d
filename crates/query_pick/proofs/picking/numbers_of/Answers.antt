use Rattle.std.proofs.Common.{◌<◌, [], ◌∷◌, ◌++◌, length, map, get_or, sym, ap, ◌∙◌}
use Rattle.std.proofs.lemmas.List.{map-append, take_more}
use Rattle.std.proofs.lemmas.List.Elements.{All-push, All-same}
use Rattle.std.proofs.lemmas.Option.{slice_get_within, get_or_from_slice_get}
use Rattle.query_pick.proofs.Copying.{place_of}
use Rattle.query_pick.proofs.picking.numbers_of.Goals as goal

pub loop-id-preserved : goal.loop-id-preserved
loop-id-preserved c =
    let places = c.args.places.now in
    let id = get_or c.args.some.now c.loop-id.id-index 0 in
    let within : c.number_of.result < length places = slice_get_within places c.number_of.result id c.number_of.ensures in (
      ap (map (place_of places)) c.in_ok-push.ensures.items
          ∙ map-append (place_of places) c.loop-id.numbers.items (c.number_of.result ∷ [])
          ∙ ap (λ n. map (place_of places) c.loop-id.numbers.items ++ n ∷ []) (get_or_from_slice_get places c.number_of.result id 0 c.number_of.ensures)
          ∙ ap (λ ns. ns ++ id ∷ []) c.loop-id.invariant.0
          ∙ sym (take_more c.args.some.now c.loop-id.id-index 0 c.loop-id-test.true),
      All-same (λ k. k < length places) _ _ c.in_ok-push.ensures.items (All-push (λ k. k < length places) c.loop-id.numbers.items c.number_of.result c.loop-id.invariant.1 within),
    )
