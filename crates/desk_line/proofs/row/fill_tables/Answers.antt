use Prim.Native.Nat.{◌+◌, ◌*◌}
use mathlib.Core.Path.{sym, ◌∙◌}
use native.Mathlib.Omega.{arith}
use lib.Seq.{length-take-le}
use Rattle.desk_line.proofs.Fills.{within_two, front_filled}
use Rattle.desk_line.proofs.row.fill_tables.Goals as goal

pub slice_bounds-fill-end : goal.slice_bounds-fill-end
slice_bounds-fill-end c = sym (length-take-le _ _ c.listed-a.ensures.0)

pub slice_bounds-fill-end-2 : goal.slice_bounds-fill-end-2
slice_bounds-fill-end-2 c = sym (length-take-le _ _ c.listed-b.ensures.0)

pub slice_bounds-fill-end-3 : goal.slice_bounds-fill-end-3
slice_bounds-fill-end-3 c = omega (arith, within_two _ _ (c.args.latest.main_count + c.args.latest.mains) _ c.kind_of-rows.ensures c.requires.1.kind c.in_rows-w.ensures, c.requires.0.main, c.requires.1.places.mains)

pub slice_bounds-fill-end-4 : goal.slice_bounds-fill-end-4
slice_bounds-fill-end-4 c = sym (length-take-le _ _ (omega (arith, within_two _ _ (c.args.latest.main_count + c.args.latest.mains) _ c.kind_of-rows.ensures c.requires.1.kind c.in_rows-w.ensures, c.requires.0.main, c.requires.1.places.mains)))

pub slice_bounds-fill-end-5 : goal.slice_bounds-fill-end-5
slice_bounds-fill-end-5 c = omega (arith, within_two _ _ (3 * c.args.latest.aux_count + 3 * c.args.latest.auxs) _ c.kind_of-rows.ensures c.requires.1.kind c.in_rows-v.ensures, c.requires.0.aux, c.requires.1.places.auxs)

pub slice_bounds-fill-end-6 : goal.slice_bounds-fill-end-6
slice_bounds-fill-end-6 c = sym (length-take-le _ _ (omega (arith, within_two _ _ (3 * c.args.latest.aux_count + 3 * c.args.latest.auxs) _ c.kind_of-rows.ensures c.requires.1.kind c.in_rows-v.ensures, c.requires.0.aux, c.requires.1.places.auxs)))

pub returns : goal.returns
returns c = front_filled c.args.latest c.args.m.now c.args.main.now c.args.aux.now c.args.challenges.now c.args.row_main.now c.args.row_aux.now c.kind_of-rows.result c.listed-a.result c.listed-b.result c.in_rows-w.result c.in_rows-v.result c.number.result c.fill.result c.fill.new.main c.fill.new.aux c.kind_of-rows.ensures c.listed-a.ensures.1 c.listed-b.ensures.1 c.in_rows-w.ensures c.in_rows-v.ensures c.number.ensures (c.fill.auto.main ∙ length-take-le _ _ (omega (arith, within_two _ _ (c.args.latest.main_count + c.args.latest.mains) _ c.kind_of-rows.ensures c.requires.1.kind c.in_rows-w.ensures, c.requires.0.main, c.requires.1.places.mains))) (c.fill.auto.aux ∙ length-take-le _ _ (omega (arith, within_two _ _ (3 * c.args.latest.aux_count + 3 * c.args.latest.auxs) _ c.kind_of-rows.ensures c.requires.1.kind c.in_rows-v.ensures, c.requires.0.aux, c.requires.1.places.auxs))) c.fill.ensures
