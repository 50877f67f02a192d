-- Cases in which a rule looks as if it could fail, and holds: the protocol before and after it.
use Rattle.std.specs.Prelude.{◌≡◌, ℕ, List, [], ◌++◌, codes}
use Rattle.ipdl_laws.specs.Refutations.{one_bit_interface}
use Rattle.ipdl_rules_p.specs.Refutations.{Pair, one_on, copy_on, one_or_read}
use Rattle.ipdl_term.specs.Contexts.{Closes, plugged}
use Rattle.ipdl_term.specs.Counts.{History, history_count}
use Rattle.ipdl_term.specs.Equality.{Equal}
use Rattle.ipdl_term.specs.Terms.{Channel, Expression, literal, variable, exclusive, Reaction, returning, flipping, reading, branching, binding, Protocol, assignment, parallel, hiding, Context, hole, in_left}
use Rattle.ipdl_term.specs.Typing.{scope_of, port_names, HasInterface}
use Rattle.ipdl_term.specs.Worked.{a, b, c, m, zero_bit}

-- ---- what is said of a pair

-- both have these inputs and outputs, each of one bit
abbrev pub HaveInterface : (inputs outputs : List Channel) → Pair → Type 0
HaveInterface inputs outs pair =
    let interface = one_bit_interface inputs outs in HasInterface [] interface pair.left × HasInterface [] interface pair.right

-- they are equal at this interface
abbrev pub AreEqual : (inputs outputs : List Channel) → Pair → Type 0
AreEqual inputs outs pair =
    let interface = one_bit_interface inputs outs in
    Equal [] (scope_of (interface.inputs ++ interface.outputs)) (port_names interface.outputs) pair.left pair.right

-- the context closes it
abbrev pub ClosesInterface : (inputs outputs : List Channel) → Context → Type 0
ClosesInterface inputs outs C =
    let interface = one_bit_interface inputs outs in
    Closes [] (scope_of (interface.inputs ++ interface.outputs)) (port_names interface.outputs) C

-- in the context both have the history on so many of the tapes of n bits
abbrev pub HaveCount : Context → (n : ℕ) → History → (count : ℕ) → Pair → Type 0
HaveCount C n h count pair =
    (history_count [] (plugged C pair.left) n h ≡ count) × (history_count [] (plugged C pair.right) n h ≡ count)

-- ---- rules at a protocol

abbrev pub o : Channel
o = codes "o"

-- o and the hidden c wait for each other, and then o for itself:
-- `(new ((c 1)) (par (out o (read c)) (out c (read o))))`
-- `(out o (read o))`
abbrev pub fold_of_stuck : Pair
fold_of_stuck = record {
  left = hiding c 1 (parallel (copy_on o c) (copy_on c o));
  right = copy_on o o;
}

-- an arm of b that is never taken reads a, and then b itself:
-- `(par (out a (read b)) (out b (if #0 (read a) (ret #0))))`
-- `(par (out a (read b)) (out b (if #0 (read b) (ret #0))))`
abbrev pub subst_in_arm : Pair
subst_in_arm = record {
  left = parallel (copy_on a b) (assignment b (read_or_zero a));
  right = parallel (copy_on a b) (assignment b (read_or_zero b));
}
  where
    read_or_zero : Channel → Reaction
    read_or_zero channel = branching (literal zero_bit) (reading channel) (returning (literal zero_bit))

-- b waits for a, which is written at once, and then for nothing:
-- `(par (out a (ret #1)) (out b (bind x 1 (read a) (ret #0))))`
-- `(par (out a (ret #1)) (out b (ret #0)))`
abbrev pub drop_before_constant : Pair
drop_before_constant = record {
  left = parallel (one_on a) (assignment b (binding 1 (reading a) (returning (literal zero_bit))));
  right = parallel (one_on a) (assignment b (returning (literal zero_bit)));
}

-- a does not wait for m, and b does, before and after:
-- `(par (out a (if #1 (ret #1) (read m))) (out b (bind x 1 (read a) (read m))))`
-- `(par (out a (if #1 (ret #1) (read m))) (out b (read m)))`
abbrev pub drop_of_arm : Pair
drop_of_arm = record {
  left = parallel (assignment a (one_or_read m)) (assignment b (binding 1 (reading a) (reading m)));
  right = parallel (assignment a (one_or_read m)) (copy_on b m);
}

-- ---- a rule at a reaction

-- `(bind x1 1 (flip 1) (ret E))`
abbrev with_coin : Expression → Reaction
with_coin e = binding 1 (flipping 1) (returning e)

-- `(bind x1 1 (flip 1) (ret (xor x1 x0)))`, where x0 is the variable of the binder around
abbrev pub coin_read : Reaction
coin_read = with_coin (exclusive (variable 0) (variable 1))

-- `(bind x1 1 (flip 1) (ret (xor (xor x1 x0) x0)))`
abbrev pub coin_masked : Reaction
coin_masked = with_coin (exclusive (exclusive (variable 0) (variable 1)) (variable 1))

-- `(out c (bind x0 1 (read m) (bind x1 1 (flip 1) (ret (xor x1 x0)))))`
-- `(out c (bind x0 1 (read m) (bind x1 1 (flip 1) (ret (xor (xor x1 x0) x0)))))`
abbrev pub mask_of_input : Pair
mask_of_input = record { left = after_input coin_read; right = after_input coin_masked }
  where
    after_input : Reaction → Protocol
    after_input r = assignment c (binding 1 (reading m) r)

-- `(out m (read c))` beside the hole
abbrev pub c_fed_into_m : Context
c_fed_into_m = in_left hole (assignment m (reading c))
