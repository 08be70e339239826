use mathlib.Core.Path.{refl}
use native.Mathlib.Omega.{arith}
use Rattle.records.specs.Format.{volume_of}
use Rattle.search.specs.Path.{drive_none, drive_more, drive_fits}
use Rattle.search.proofs.path.count_path.Goals as goal

pub loop-e-init : goal.loop-e-init
loop-e-init c = drive_none (volume_of c.args.opened.now.records.bytes.now) c.args.trail.now c.args.x

pub overflow_add-n : goal.overflow_add-n
overflow_add-n c =
    omega (arith, (drive_fits c.args.opened.now.sound c.requires.chain c.loop-e.invariant (omega arith) _ refl _ c.count_roads-u.ensures).1)

pub overflow_add-y : goal.overflow_add-y
overflow_add-y c =
    omega (arith, (drive_fits c.args.opened.now.sound c.requires.chain c.loop-e.invariant (omega arith) _ refl _ c.count_roads-u.ensures).0)

pub loop-e-preserved : goal.loop-e-preserved
loop-e-preserved c =
    drive_more c.args.opened.now.sound c.requires.chain c.loop-e.invariant (omega arith) _ refl _ c.count_roads-u.ensures
