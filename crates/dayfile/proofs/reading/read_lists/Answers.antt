use Rattle.std.proofs.Common.{◌≡◌, ℕ, ◌+◌, ◌*◌, replicate, sym, subst, arith}
use Rattle.dayformat.specs.declared.Kind.TheVariants as kind
use Rattle.dayformat.specs.Faults.{Stand}
use Rattle.dayformat.proofs.Files.{run_connections, run_footpaths, run_lines}
use Rattle.dayfile.proofs.Taking.{taken_read}
use Rattle.dayfile.proofs.reading.read_lists.Goals as goal

pub read_all-footpaths_from-requires : goal.read_all-footpaths_from-requires
read_all-footpaths_from-requires c = record { room = c.requires.fits.connections; stand = run_connections c.args.file.now c.args.n.now c.requires.whole }

pub read_all-lines_from-requires : goal.read_all-lines_from-requires
read_all-lines_from-requires c = let n = c.args.n.now in
    record {
      room = c.requires.fits.footpaths;
      stand = subst (λ (z : ℕ). Stand c.args.file.now z (replicate n.footpaths kind.Footpath) (z + 8 * n.footpaths)) (sym c.read_all-footpaths_from.ensures.answer) (run_footpaths c.args.file.now n c.requires.whole);
    }

pub read_all-end-requires : goal.read_all-end-requires
read_all-end-requires c = let n = c.args.n.now in
    let e : c.read_all-lines_from.result ≡ 0 + 14 * n.connections + 8 * n.footpaths = omega (arith, c.read_all-footpaths_from.ensures.answer, c.read_all-lines_from.ensures.answer) in
    record {
      room = c.requires.fits.lines;
      stand = subst (λ (z : ℕ). Stand c.args.file.now z (replicate n.lines kind.Line) (z + 20 * n.lines)) (sym e) (run_lines c.args.file.now n c.requires.whole);
    }

pub returns-clause-taken : goal.returns-clause-taken
returns-clause-taken c = let n = c.args.n.now in
    record {
      read = taken_read c.args.file.now n c.requires.whole c.read_all-footpaths_from.result c.read_all-lines_from.result _ c.read_all-footpaths_from.ensures.answer c.read_all-lines_from.ensures.answer
          c.read_all-footpaths_from.ensures.after c.read_all-lines_from.ensures.after c.read_all-end.ensures.after;
      connections = record { fits = c.requires.fits.connections; long = c.read_all-footpaths_from.auto.list; rest = c.read_all-footpaths_from.ensures.rest };
      footpaths = record { fits = c.requires.fits.footpaths; long = c.read_all-lines_from.auto.list; rest = c.read_all-lines_from.ensures.rest };
      lines = record { fits = c.requires.fits.lines; long = c.read_all-end.auto.list; rest = c.read_all-end.ensures.rest };
    }
