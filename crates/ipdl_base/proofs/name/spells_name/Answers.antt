use Rattle.std.proofs.Common.{◌≡◌, true, false, if◌then◌else◌, length, sym, ◌∙◌, arith}
use Rattle.std.proofs.lemmas.Iterator.{YieldsList-from_chars}
use Rattle.std.proofs.lemmas.Iterator.Consumers.{YieldsList-turn, YieldsList-end}
use Rattle.std.proofs.lemmas.List.{at_drop_all, length_push}
use Rattle.std.specs.Str.{chars}
use Rattle.ipdl_base.specs.Names.{starts_name, continues_name}
use Rattle.ipdl_base.proofs.NameLemmas.{spells_from, spells_from-nil, spells_from-drop}
use Rattle.ipdl_base.proofs.name.spells_name.Goals as goal

pub returns-then-not-fits_name : goal.returns-then-not-fits_name
returns-then-not-fits_name c =
    let turn = YieldsList-turn (YieldsList-from_chars c.args.text.now c.utf8.text cc) c.loop-c.yielded _ c.loop-c.yielded_by _ _ c.in-Some.c c.in-Some.is c.next.ensures.steps in
    let step = spells_from-drop c.loop-c.started _ _ _ turn in
    let misfit : (if c.loop-c.started then continues_name c.in-Some.c else starts_name c.in-Some.c) ≡ false = sym c.fits_name.ensures ∙ c.if-not-fits_name.true in
    sym (rw misfit at step) ∙ c.loop-c.invariant

pub loop-c-preserved : goal.loop-c-preserved
loop-c-preserved c =
    let turn = YieldsList-turn (YieldsList-from_chars c.args.text.now c.utf8.text cc) c.loop-c.yielded _ c.loop-c.yielded_by _ _ c.in-Some.c c.in-Some.is c.next.ensures.steps in
    let step = spells_from-drop c.loop-c.started _ _ _ turn in
    let longer = length_push c.loop-c.yielded c.in-Some.c in
    let fit : (if c.loop-c.started then continues_name c.in-Some.c else starts_name c.in-Some.c) ≡ true = sym c.fits_name.ensures ∙ c.if-not-fits_name.false in
    rw longer (sym (rw fit at step) ∙ c.loop-c.invariant)

pub returns : goal.returns
returns c =
    let end = YieldsList-end (YieldsList-from_chars c.args.text.now c.utf8.text cc) c.loop-c.yielded _ c.loop-c.yielded_by _ _ c.in-None.is c.next.ensures.steps in
    let at_end = at_drop_all (spells_from c.loop-c.started) (chars c.args.text.now) (length c.loop-c.yielded) (omega (arith, end.1)) in
    spells_from-nil c.loop-c.started ∙ sym at_end ∙ c.loop-c.invariant
