use Rattle.std.proofs.Common.{length}
use Rattle.query_slice.proofs.Found.{first_found, number_within}
use Rattle.query_slice.proofs.linking.first_at.Goals as goal

pub bounds-firsts-number_of : goal.bounds-firsts-number_of
bounds-firsts-number_of c =
    number_within c.args.places.now (length c.args.firsts.now) c.args.id c.number_of.result c.requires.increasing c.requires.there c.number_of.ensures

pub returns : goal.returns
returns c graph are =
    first_found c.args.places.now (length c.args.firsts.now) c.args.id c.number_of.result c.requires.increasing c.requires.there c.number_of.ensures graph c.args.firsts.now are
