use Rattle.std.proofs.lemmas.List.Elements.{contains_decides}
use Rattle.std.proofs.lemmas.Bool.Decides.{not_from_Decides, Decides-eqb}
use Rattle.journey_laws.proofs.Listing.{in_from_place, has_from_in}
use Rattle.detour.proofs.hops.is_barred.Goals as goal
use Rattle.std.proofs.Common.{eqb}

pub returns : goal.returns
returns c =
    let d = contains_decides eqb Decides-eqb c.args.barred.now c.args.edge c.contains.result c.contains.ensures.cases in
    record {
      yes = λ h. (let (k, lt, at) = d.0 h in in_from_place c.args.edge c.args.barred.now k lt (at 0));
      no = λ h i. not_from_Decides c.contains.result d h (has_from_in c.args.edge c.args.barred.now i);
    }
