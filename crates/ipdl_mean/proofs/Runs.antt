-- What a run of a reaction comes to, by that of its parts.
use Rattle.std.proofs.Common.{◌≡◌, ℕ, zero, suc, ◌-◌, ◌<◌, ◌≤◌, Bool, List, [], ◌∷◌, ◌++◌, Option, Some, None, length, map, reverse, take, drop, refl, sym, ap, ◌∙◌, subst, arith, append_assoc}
use Rattle.std.proofs.lemmas.List.{map-append, reverse-append, take_rest}
use Rattle.ipdl_laws.proofs.ReadingLaws.{first_bits_enough}
use Rattle.ipdl_mean.specs.Readings.{channels_read}
use Rattle.ipdl_mean.specs.Running.{Ends}
use Rattle.ipdl_term.specs.Interpretations.{Interpretation}
use Rattle.ipdl_term.specs.Networks.{Writers}
use Rattle.ipdl_term.specs.Reactions.{Outcome, continued, first_bits, outcome_value, reaction_outcome, with_bit}
use Rattle.ipdl_term.specs.Terms.{Value, Reaction, binding}
use Rattle.ipdl_term.specs.Valuations.{Valuation}

-- ---- flips

pub first_bits_short : (w : ℕ) (t : List Bool) → length t < w → first_bits w t ≡ None
first_bits_short zero t h = absurd (omega arith)
first_bits_short (suc w) [] h = refl
first_bits_short (suc w) (b ∷ t) h = ap (with_bit b) (first_bits_short w t (omega arith))

pub first_bits_cut : (w : ℕ) (t : List Bool) (v : Value) → v ≡ take w t → w ≤ length t → first_bits w t ≡ Some (v, take (length t - w) (drop w t))
first_bits_cut w t v is h =
    first_bits_enough w t h ∙ ap (λ u. Some (u, drop w t)) (sym is) ∙ ap (λ rest. Some (v, rest)) (sym (take_rest t w))

-- ---- bindings

-- the value of a run is that of its outcome
pub value_of_run : (value : Option Value) (tape : List Bool) (writers behind : List (Option ℕ)) (outcome : Outcome) → Ends value tape writers behind outcome → value ≡ outcome_value outcome
value_of_run None tape writers behind outcome h = sym (ap outcome_value h)
value_of_run (Some v) tape writers behind outcome h = sym (ap outcome_value h.0)

-- the second part runs on
run_on : (outcome : Outcome) (next : Value → List Bool → Outcome) (first : Value) (between : List Bool) → outcome ≡ Some (first, between) → (value : Option Value) (tape : List Bool) (writers behind : List (Option ℕ)) → Ends value tape writers behind (next first between) → Ends value tape writers behind (continued outcome next)
run_on outcome next first between is None tape writers behind h = ap (λ o. continued o next) is ∙ h
run_on outcome next first between is (Some v) tape writers behind h = (ap (λ o. continued o next) is ∙ h.0, h.1)

-- both parts of a binding run, one after the other
module _ (J : Interpretation) (w : ℕ) (q r s : Reaction) (is : q ≡ binding w r s) (env env' : List Value) (inputs : Valuation) (first : Value) (held : env' ≡ env ++ first ∷ []) (o value : Option Value) (there : o ≡ Some first) (tape between end : List Bool) (writers : Writers) (ws ws' ws'' : List (Option ℕ)) where
  abbrev First : List (Option ℕ) → Type 0
  First behind = ws ≡ map writers (channels_read r) ++ behind → Ends o between ws' behind (reaction_outcome J r (reverse env) inputs tape)

  abbrev Second : List (Option ℕ) → Type 0
  Second behind = ws' ≡ map writers (channels_read s) ++ behind → Ends value end ws'' behind (reaction_outcome J s (reverse env') inputs between)

  pub both_run : ((behind : List (Option ℕ)) → First behind) → ((behind : List (Option ℕ)) → Second behind) → (behind : List (Option ℕ)) → ws ≡ map writers (channels_read q) ++ behind → Ends value end ws'' behind (reaction_outcome J q (reverse env) inputs tape)
  both_run one two behind all =
      let split : map writers (channels_read (binding w r s)) ++ behind ≡ map writers (channels_read r) ++ (map writers (channels_read s) ++ behind) = ap (λ xs. xs ++ behind) (map-append writers (channels_read r) (channels_read s)) ∙ append_assoc (map writers (channels_read r)) (map writers (channels_read s)) behind in
      let given : ws ≡ map writers (channels_read r) ++ (map writers (channels_read s) ++ behind) = all ∙ ap (λ x. map writers (channels_read x) ++ behind) is ∙ split in
      let x = subst (λ v. Ends v between ws' (map writers (channels_read s) ++ behind) (reaction_outcome J r (reverse env) inputs tape)) there (one (map writers (channels_read s) ++ behind) given) in
      let inside : reverse env' ≡ first ∷ reverse env = ap reverse held ∙ reverse-append env (first ∷ []) in
      let y = subst (λ e. Ends value end ws'' behind (reaction_outcome J s e inputs between)) inside (two behind x.1) in
      let next : Value → List Bool → Outcome = λ v rest. reaction_outcome J s (v ∷ reverse env) inputs rest in
      subst (λ x. Ends value end ws'' behind (reaction_outcome J x (reverse env) inputs tape)) (sym is)
      (run_on (reaction_outcome J r (reverse env) inputs tape) next first between x.0 value end ws'' behind y)
