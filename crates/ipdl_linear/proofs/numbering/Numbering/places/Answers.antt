use Rattle.std.proofs.Common.{◌+◌, sym, subst}
use Rattle.ipdl_linear.proofs.Places.{IsPlacesUpTo, IsPlacesUpTo-next}
use Rattle.ipdl_linear.proofs.numbering.Numbering.places.Goals as goal

pub loop-place-preserved : goal.loop-place-preserved
loop-place-preserved c =
    subst (λ ns. IsPlacesUpTo c.args.self.now c.single.new.self c.args.source.now ns (c.loop-place.place + 1)) (sym c.in_ok-push.ensures.items)
    (IsPlacesUpTo-next c.args.self.now c.loop-place.self c.single.new.self c.args.source.now c.loop-place.forms.items c.loop-place.place c.in_ok-form.form _ c.in_ok-atom.ensures c.loop-place.invariant c.in_ok-form.ensures)
