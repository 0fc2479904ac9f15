use Rattle.std.proofs.Common.{◌<◌, length, sym, arith}
use Rattle.detour.proofs.Chains.{there, read, leaves_stop, group_more, ascend_more}
use Rattle.detour.proofs.departures.Links.prepend.Goals as goal

pub returns-in-Some : goal.returns-in-Some
returns-in-Some g c =
    let law = g.met.N.Network.lawful c.args.network.now in
    let leads = sym c.in-Some.ensures in
    let within = there _ law _ _ leads in
    let held : c.in-Some.stop < length c.args.self.now.first = omega (arith, within.1) in
    group_more c.requires (leaves_stop (g.N.Network.meaning c.args.network.now) c.args.edge leads) within.0 within.1 held (omega (arith, within.0, law.few)) c.to.ensures (read _ _ _ held c.index-self-stop.is)

pub invariant_of-self : goal.invariant_of-self
invariant_of-self g c =
    let law = g.met.N.Network.lawful c.args.network.now in
    let within = there _ law _ _ (sym c.in-Some.ensures) in
    let held : c.in-Some.stop < length c.args.self.now.first = omega (arith, within.1) in
    record { ascending = ascend_more law c.requires c.args.self.now.ascending within.1 (omega (arith, within.0, law.few)) (read _ _ _ held c.index-self-stop.is) }
