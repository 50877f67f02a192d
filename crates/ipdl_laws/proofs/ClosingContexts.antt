-- Each signature has an interpretation, and each finite interface a context that closes it.
use Rattle.std.proofs.Common.{◌≡◌, ℕ, zero, suc, Bool, true, false, ◌||◌, List, [], ◌∷◌, ◌++◌, length, Option, Some, None, is_some, refl, sym, ap, ◌∙◌, subst, arith}
use Rattle.std.proofs.lemmas.Bool.{or_right}
use Rattle.std.specs.Prelude.{All, IfSome, if◌then◌else◌}
use Rattle.ipdl_base.specs.BitsLaws.{length-bits_of}
use Rattle.ipdl_term.specs.Channels.{same_channel, has}
use Rattle.ipdl_term.specs.Contexts.{context_outputs, IsTypedContext, Closes}
use Rattle.ipdl_term.specs.Interpretations.{SymbolShape, Signature, Function, Interpretation, HaveWidths, table_entries, IsFunctionOf, Interprets}
use Rattle.ipdl_term.specs.Terms.{Value, Channel, assignment, Context, in_left}
use Rattle.ipdl_term.specs.Typing.{Scope, GivesWidth, scope_of, port_names}
use Rattle.ipdl_term.specs.declared.interface.Interface.{Interface}
use Rattle.ipdl_term.specs.declared.interface.Port.{Port}
use Rattle.ipdl_laws.specs.Closings.{TablesHaveWidths, symbol_entries, zero_interpretation, Feed, zero_feed, silent_feed, feeding, feeding_all, fed_interface}
use Rattle.ipdl_term.proofs.ChannelSets.{same_channel-itself}
use Rattle.ipdl_laws.proofs.Widths.{length-zeros}
use Rattle.ipdl_laws.proofs.Sets.{by_test, test_same, not_both, at_same_channel, has-single, in_union_left, in_union_right, in_second}

-- ---- interpretations

-- the entries of a table have the widths
HaveWidths-table_entries : (from to i : ℕ) (values : List Value) → All (λ (v : Value). length v ≡ to) values → HaveWidths from to (table_entries from i values)
HaveWidths-table_entries from to i [] h = tt
HaveWidths-table_entries from to i (v ∷ values) h = (length-bits_of from i, h zero v (omega arith), HaveWidths-table_entries from to (suc i) values (λ k d l. h (suc k) d (omega arith)))

-- and those of any symbol
HaveWidths-symbol_entries : (from to : ℕ) (values : Option (List Value)) → IfSome values (λ values. All (λ (v : Value). length v ≡ to) values) → HaveWidths from to (symbol_entries from values)
HaveWidths-symbol_entries from to None h = tt
HaveWidths-symbol_entries from to (Some values) h = HaveWidths-table_entries from to 0 values h

-- the table itself
table_itself : (from : ℕ) (values : Option (List Value)) → IfSome values (λ table. symbol_entries from values ≡ table_entries from 0 table)
table_itself from None = tt
table_itself from (Some values) = refl

pub signature_has_interpretation : (sig : Signature) → TablesHaveWidths sig → Interprets sig (zero_interpretation sig)
signature_has_interpretation [] h = tt
signature_has_interpretation (s ∷ sig) h = (
  record { from = refl; to = refl; entries = HaveWidths-symbol_entries s.from s.to s.values (h zero s (omega arith)); table = table_itself s.from s.values },
  signature_has_interpretation sig (λ k d l. h (suc k) d (omega arith)),
)

-- values of entries of these widths have the width
widths_of_table : (from to i : ℕ) (values : List Value) → HaveWidths from to (table_entries from i values) → All (λ (v : Value). length v ≡ to) values
widths_of_table from to i [] h k d l = absurd (omega arith)
widths_of_table from to i (v ∷ values) h zero d l = h.1
widths_of_table from to i (v ∷ values) h (suc k) d l = widths_of_table from to (suc i) values h.2 k d (omega arith)

widths_of_symbol : (s : SymbolShape) (f : Function) → IsFunctionOf s f → IfSome s.values (λ values. All (λ (v : Value). length v ≡ s.to) values)
widths_of_symbol s f is = go s.values is.table
  where
    go : (o : Option (List Value)) → IfSome o (λ values. f.entries ≡ table_entries s.from 0 values) → IfSome o (λ values. All (λ (v : Value). length v ≡ s.to) values)
    go None h = tt
    go (Some values) h = widths_of_table s.from s.to 0 values (subst (HaveWidths s.from s.to) h is.entries)

pub interpreted_tables : (sig : Signature) (J : Interpretation) → Interprets sig J → TablesHaveWidths sig
interpreted_tables [] J h k d l = absurd (omega arith)
interpreted_tables (s ∷ sig) [] h k d l = absurd h
interpreted_tables (s ∷ sig) (f ∷ J) h zero d l = widths_of_symbol s f h.0
interpreted_tables (s ∷ sig) (f ∷ J) h (suc k) d l = interpreted_tables sig J h.1 k d (omega arith)

-- ---- closing contexts

module _ (sig : Signature) (scope : Scope) (written : List Channel) (feed : Feed) (typed_feed : (c : Channel) (w : ℕ) → scope c ≡ Some w → GivesWidth sig scope [] (feed c w) w) where
  -- what a context writes
  abbrev writes : Context → Channel → Bool
  writes C d = has (context_outputs C written) d

  -- a channel is fed, or written already
  abbrev fed : Channel → ℕ → Context → Bool → Context
  fed c w C b = if b then C else in_left C (assignment c (feed c w))

  typed_fed : (c : Channel) (w : ℕ) (C : Context) → scope c ≡ Some w → IsTypedContext sig scope written scope C → (b : Bool) → writes C c ≡ b → IsTypedContext sig scope written scope (fed c w C b)
  typed_fed c w C at t true e = t
  typed_fed c w C at t false e = (
    t,
    (w, at, typed_feed c w at),
    λ d h. has-single c d ∙ by_test (same_channel c d)
        (λ l. not_both (writes C d) h (at_same_channel (λ z. writes C z ≡ false) c d l e))
        (λ l. l),
  )

  typed_feeding : (c : Channel) (C : Context) → IsTypedContext sig scope written scope C → (o : Option ℕ) → scope c ≡ o → IsTypedContext sig scope written scope (feeding feed c o written C)
  typed_feeding c C t None e = t
  typed_feeding c C t (Some w) e = typed_fed c w C e t (writes C c) refl

  typed_feeding_all : (cs : List Channel) → IsTypedContext sig scope written scope (feeding_all feed cs scope written)
  typed_feeding_all [] = λ d w e. e
  typed_feeding_all (c ∷ cs) = typed_feeding c (feeding_all feed cs scope written) (typed_feeding_all cs) (scope c) refl

  -- what is written stays written
  still_fed : (c : Channel) (w : ℕ) (C : Context) (b : Bool) (d : Channel) → writes C d ≡ true → writes (fed c w C b) d ≡ true
  still_fed c w C true d h = h
  still_fed c w C false d h = in_union_left (context_outputs C written) (c ∷ []) d h

  still_written : (c : Channel) (C : Context) (o : Option ℕ) (d : Channel) → writes C d ≡ true → writes (feeding feed c o written C) d ≡ true
  still_written c C None d h = h
  still_written c C (Some w) d h = still_fed c w C (writes C c) d h

  -- a channel that has a width is written then
  is_fed : (c : Channel) (w : ℕ) (C : Context) (b : Bool) → writes C c ≡ b → writes (fed c w C b) c ≡ true
  is_fed c w C true e = e
  is_fed c w C false e = in_union_right (context_outputs C written) (c ∷ []) c (has-single c c ∙ same_channel-itself c)

  is_written : (c : Channel) (C : Context) (o : Option ℕ) → is_some o ≡ true → writes (feeding feed c o written C) c ≡ true
  is_written c C None h = cc
  is_written c C (Some w) h = is_fed c w C (writes C c) refl

  all_written : (cs : List Channel) (d : Channel) → has cs d ≡ true → is_some (scope d) ≡ true → writes (feeding_all feed cs scope written) d ≡ true
  all_written [] d h k = cc
  all_written (c ∷ cs) d h k = by_test (same_channel c d)
      (λ l. at_same_channel (λ z. is_some (scope z) ≡ true → writes (feeding_all feed (c ∷ cs) scope written) z ≡ true) c d l (is_written c (feeding_all feed cs scope written) (scope c)) k)
      (λ l. still_written c (feeding_all feed cs scope written) (scope c) d (all_written cs d (sym (ap (λ b. b || has cs d) l) ∙ h) k))

  -- nothing is written that has no width
  fed_visible : (c : Channel) (w : ℕ) (C : Context) (b : Bool) (d : Channel) → scope c ≡ Some w → (writes C d ≡ true → is_some (scope d) ≡ true) → writes (fed c w C b) d ≡ true → is_some (scope d) ≡ true
  fed_visible c w C true d e f h = f h
  fed_visible c w C false d e f h = by_test (writes C d)
      (λ l. f l)
      (λ l. at_same_channel (λ z. is_some (scope z) ≡ true) c d (sym (has-single c d) ∙ in_second (context_outputs C written) (c ∷ []) d h l) (ap is_some e))

  feeding_visible : (c : Channel) (C : Context) (o : Option ℕ) (d : Channel) → scope c ≡ o → (writes C d ≡ true → is_some (scope d) ≡ true) → writes (feeding feed c o written C) d ≡ true → is_some (scope d) ≡ true
  feeding_visible c C None d e f h = f h
  feeding_visible c C (Some w) d e f h = fed_visible c w C (writes C c) d e f h

  all_visible : ((d : Channel) → has written d ≡ true → is_some (scope d) ≡ true) → (cs : List Channel) (d : Channel) → writes (feeding_all feed cs scope written) d ≡ true → is_some (scope d) ≡ true
  all_visible f [] d h = f d h
  all_visible f (c ∷ cs) d h = feeding_visible c (feeding_all feed cs scope written) (scope c) d refl (all_visible f cs d) h

  -- zeros on all channels of a finite scope close it
  pub feeding_closes : (cs : List Channel) → ((d : Channel) → is_some (scope d) ≡ true → has cs d ≡ true) → ((d : Channel) → has written d ≡ true → is_some (scope d) ≡ true) → Closes sig scope written (feeding_all feed cs scope written)
  feeding_closes cs finite visible = (
    scope,
    typed_feeding_all cs,
    λ d. test_same (is_some (scope d)) (writes (feeding_all feed cs scope written) d) (λ h. all_written cs d (finite d h) h) (all_visible visible cs d),
  )

-- ---- interfaces

-- the channels of the scope of ports are their names
pub scope_of_names : (ports : List Port) (d : Channel) → is_some (scope_of ports d) ≡ has (port_names ports) d
scope_of_names [] d = refl
scope_of_names (port ∷ ports) d = go (scope_of ports d) refl (same_channel port.name d) refl (scope_of_names ports d)
  where
    go : (o : Option ℕ) → scope_of ports d ≡ o → (b : Bool) → same_channel port.name d ≡ b → is_some (scope_of ports d) ≡ has (port_names ports) d → is_some (scope_of (port ∷ ports) d) ≡ (same_channel port.name d || has (port_names ports) d)
    go None e true k h = rw (e, k) refl
    go None e false k h = rw (e, k) (rw e at h)
    go (Some v) e true k h = rw (e, k) refl
    go (Some v) e false k h = rw (e, k) (rw e at h)

-- the names of two lists of ports
port_names-append : (ps qs : List Port) (d : Channel) → has (port_names qs) d ≡ true → has (port_names (ps ++ qs)) d ≡ true
port_names-append [] qs d h = h
port_names-append (p ∷ ps) qs d h = or_right (same_channel p.name d) (has (port_names (ps ++ qs)) d) (port_names-append ps qs d h)

module _ (sig : Signature) (i : Interface) where
  -- whatever typed reactions feed the inputs
  interface_closes : (feed : Feed) → ((c : Channel) (w : ℕ) → scope_of (i.inputs ++ i.outputs) c ≡ Some w → GivesWidth sig (scope_of (i.inputs ++ i.outputs)) [] (feed c w) w) → Closes sig (scope_of (i.inputs ++ i.outputs)) (port_names i.outputs) (fed_interface feed i)
  interface_closes feed typed =
      feeding_closes sig (scope_of (i.inputs ++ i.outputs)) (port_names i.outputs) feed typed (port_names (i.inputs ++ i.outputs))
      (λ d h. sym (scope_of_names (i.inputs ++ i.outputs) d) ∙ h)
      (λ d h. scope_of_names (i.inputs ++ i.outputs) d ∙ port_names-append i.inputs i.outputs d h)

  pub closed_by_zeros : Closes sig (scope_of (i.inputs ++ i.outputs)) (port_names i.outputs) (fed_interface zero_feed i)
  closed_by_zeros = interface_closes zero_feed (λ c w h. length-zeros w)

  pub closed_by_silence : Closes sig (scope_of (i.inputs ++ i.outputs)) (port_names i.outputs) (fed_interface silent_feed i)
  closed_by_silence = interface_closes silent_feed (λ c w h. h)
