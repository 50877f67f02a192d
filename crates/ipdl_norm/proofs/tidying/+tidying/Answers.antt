-- Room for the numbers of variables at each call, and that what is made is a part of the whole, also where it is too large.
use Rattle.std.proofs.Common.{◌≡◌, inl, inr, ◌+◌, ◌*◌, ◌<◌, Err, true, false, refl, sym, ap, ◌∙◌, arith}
use Rattle.std.proofs.lemmas.Result.{err_from_is_err_and}
use Rattle.ipdl_laws.proofs.ChangedSizes.{lifted_reaction-nodes}
use Rattle.ipdl_norm.proofs.Grafting.{grafted-value, grouped}
use Rattle.ipdl_norm.proofs.Growing.{room_with_tidied, room_to_put, room_to_lift, room_behind, room_before, grafted-grows, grafted-keeps_action, makes_larger}
use Rattle.ipdl_norm.specs.AtOnce.{is_action, returns_first}
use Rattle.ipdl_norm.specs.Counted.{IsCounted, Makes}
use Rattle.ipdl_norm.specs.Room.{HasRoom}
use Rattle.ipdl_norm.specs.Tidied.{grafted, tidied}
use Rattle.ipdl_term.specs.Sizes.{reaction_nodes}
use Rattle.ipdl_term.specs.Terms.{binding}
use Rattle.ipdl_term.specs.Variables.{lifted_reaction}
use Rattle.ipdl_term.specs.Views.{expression_of, reaction_of}
use Rattle.ipdl_norm.proofs.tidying.+tidying.Goals as goal

pub before-put_before-requires : goal.before-put_before-requires
before-put_before-requires t c =
    let room = rw c.in-Ret.is at c.requires.room in
    record { room = room_to_put c.args.width (expression_of c.in-Ret.e) (reaction_of c.args.rest.reaction) room }

pub before-lift-requires-clause-fits : goal.before-lift-requires-clause-fits
before-lift-requires-clause-fits t c =
    let room = rw c.in-Bind.is at c.requires.room in
    (room_to_lift c.args.width c.in-Bind.v (reaction_of c.in-Bind.q.value) (reaction_of c.in-Bind.s.value) (reaction_of c.args.rest.reaction) room).0

pub before-before-requires-in-Bind : goal.before-before-requires-in-Bind
before-before-requires-in-Bind t c =
    let whole = rw c.in-Bind.is at c.requires.room in
    let part = room_behind c.args.width c.in-Bind.v (reaction_of c.in-Bind.q.value) (reaction_of c.in-Bind.s.value) (reaction_of c.args.rest.reaction) whole in
    let room : HasRoom (binding c.args.width (reaction_of c.deref-in-Bind.result.now) (reaction_of c.lift.new.term)) = rw (c.deref-in-Bind.ensures, c.lift.ensures) part in
    let counted : IsCounted record { reaction = c.lift.new.term; nodes = c.args.rest.nodes } = record { counted = c.requires.counted.counted ∙ sym (ap reaction_nodes c.lift.ensures ∙ lifted_reaction-nodes 1 1 (reaction_of c.args.rest.reaction)); within = c.requires.counted.within } in
    let less : 2 * reaction_nodes (reaction_of c.deref-in-Bind.result.now) + 1 < 2 * reaction_nodes (reaction_of c.args.term.now) + 1 = rw (c.in-Bind.is, c.deref-in-Bind.ensures) (omega arith) in
    (omega (arith, less, c.decreases), (counted, room))

pub before-returns-in_err-rest-in-Bind : goal.before-returns-in_err-rest-in-Bind
before-returns-in_err-rest-in-Bind t c =
    let p = err_from_is_err_and c.from_residual.result c.from_residual.ensures.1 in
    let q = tidied (reaction_of c.in-Bind.q.value) in
    let s = tidied (reaction_of c.in-Bind.s.value) in
    let rest = reaction_of c.args.rest.reaction in
    let made : Makes (Err c.in_err-rest-in-Bind.field-0.0) (grafted c.args.width s (lifted_reaction rest 1 1)) =
    rw (← c.deref-in-Bind.ensures, ← c.lift.ensures) c.in_err-rest-in-Bind.ensures in
    let other : returns_first s ≡ false = rw (← c.deref.ensures) (sym c.if-tidied_returns_first.ensures) in
    rw (p.1, p.2, c.in-Bind.is, grouped q c.args.width c.in-Bind.v s rest other)
    (makes_larger c.in_err-rest-in-Bind.field-0.0 (grafted c.args.width s (lifted_reaction rest 1 1)) _ (grafted-grows c.in-Bind.v q (grafted c.args.width s (lifted_reaction rest 1 1))) made)

pub before-before-requires-in-Bind-2 : goal.before-before-requires-in-Bind-2
before-before-requires-in-Bind-2 t c =
    let whole = rw c.in-Bind.is at c.requires.room in
    let part = room_before c.args.width c.in-Bind.v (reaction_of c.in-Bind.q.value) (reaction_of c.in-Bind.s.value) (reaction_of c.args.rest.reaction) whole in
    let is = rw (c.deref-in-Bind.ensures, c.lift.ensures) at c.in_ok-rest-in-Bind.ensures.0 in
    let room : HasRoom (binding c.in-Bind.v (reaction_of c.deref-in-Bind-2.result.now) (reaction_of c.in_ok-rest-in-Bind.rest.reaction)) =
    rw (is, c.deref-in-Bind-2.ensures) part in
    let less : 2 * reaction_nodes (reaction_of c.deref-in-Bind-2.result.now) + 1 < 2 * reaction_nodes (reaction_of c.args.term.now) + 1 = rw (c.in-Bind.is, c.deref-in-Bind-2.ensures) (omega arith) in
    (omega (arith, less, c.decreases), (c.in_ok-rest-in-Bind.ensures.1, room))

pub before-returns-in_err-first-in-Flip : goal.before-returns-in_err-first-in-Flip
before-returns-in_err-first-in-Flip t c =
    let p = err_from_is_err_and c.from_residual-in_err-first-in-Flip.result c.from_residual-in_err-first-in-Flip.ensures.1 in
    let term = tidied (reaction_of c.args.term.now) in
    let action : is_action term ≡ true = elim c.in-Flip.is [ inl f ↦ rw f.1 refl | inr o ↦ elim o [ inl r ↦ rw r.1 refl | inr b ↦ rw b.3 refl ] ] in
    rw (p.1, p.2)
    (makes_larger c.in_err-first-in-Flip.field-0.0 term _ (grafted-keeps_action c.args.width term (reaction_of c.args.rest.reaction) action) c.in_err-first-in-Flip.ensures)

pub before-returns-in-Ret : goal.before-returns-in-Ret
before-returns-in-Ret t c = rw (c.in-Ret.is, grafted-value c.args.width (expression_of c.in-Ret.e) (reaction_of c.args.rest.reaction)) c.put_before.ensures

pub before-returns-in_ok-rest-in-Bind : goal.before-returns-in_ok-rest-in-Bind
before-returns-in_ok-rest-in-Bind t c =
    let q = tidied (reaction_of c.in-Bind.q.value) in
    let s = tidied (reaction_of c.in-Bind.s.value) in
    let rest = reaction_of c.args.rest.reaction in
    let other : returns_first s ≡ false = rw (← c.deref.ensures) (sym c.if-tidied_returns_first.ensures) in
    rw (c.in-Bind.is, grouped q c.args.width c.in-Bind.v s rest other, ← c.lift.ensures, ← c.deref-in-Bind.ensures, ← c.in_ok-rest-in-Bind.ensures.0, ← c.deref-in-Bind-2.ensures) c.before-in-Bind-2.ensures

pub tidy_counted-returns-in_err-rest-in-Bind : goal.tidy_counted-returns-in_err-rest-in-Bind
tidy_counted-returns-in_err-rest-in-Bind t c =
    let p = err_from_is_err_and c.from_residual.result c.from_residual.ensures.1 in
    let s = tidied (reaction_of c.in-Bind.s.value) in
    let made : Makes (Err c.in_err-rest-in-Bind.field-0.0) s = rw (← c.deref-in-Bind.ensures) c.in_err-rest-in-Bind.ensures in
    rw (p.1, p.2, c.in-Bind.is)
    (makes_larger c.in_err-rest-in-Bind.field-0.0 s _ (grafted-grows c.in-Bind.w (tidied (reaction_of c.in-Bind.r.value)) s) made)

pub tidy_counted-before-requires : goal.tidy_counted-before-requires
tidy_counted-before-requires t c =
    let whole = rw c.in-Bind.is at c.requires in
    let part = room_with_tidied c.in-Bind.w (reaction_of c.in-Bind.r.value) (reaction_of c.in-Bind.s.value) whole in
    let room : HasRoom (binding c.in-Bind.w (reaction_of c.deref-in-Bind-2.result.now) (reaction_of c.in_ok-rest-in-Bind.rest.reaction)) =
    rw (c.in_ok-rest-in-Bind.ensures.0, c.deref-in-Bind-2.ensures, c.deref-in-Bind.ensures) part in
    let less : 2 * reaction_nodes (reaction_of c.deref-in-Bind-2.result.now) + 1 < 2 * reaction_nodes (reaction_of c.args.term.now) = rw (c.in-Bind.is, c.deref-in-Bind-2.ensures) (omega arith) in
    (omega (arith, less, c.decreases), (c.in_ok-rest-in-Bind.ensures.1, room))
