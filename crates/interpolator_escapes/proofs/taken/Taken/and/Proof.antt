-- `and` makes the empty struct, with what its clause names. Assumes `Logic`.
use Rattle.std.proofs.Common.{ℕ, List, [], ◌∷◌, ◌++◌, refl}
use Rattle.std.proofs.raw_atomic.Walks.{proved}
use Rattle.std.specs.Str.{chars}
use mir.Syntax.{named}
use types.Kit.{‵, raw, ◌⊛◌, ◌$◌, ◌∵◌, !, qed, keep, split, move, fjoin, suffices, done}
use types.ByLocal.{alloc_all, pass_all, free_all, look_at, get, sets}
use types.{Part.agg, Run.enter, Run.returns, Run.and_then, Run.no_more}
use denote.Triple.Walked.{says, Stays, stay_dropped, walk_of, ends_at, Goes-dropped}
use denote.{Builtin.RefOf, Builtin.unit, Exit.yes, Laws.Is, RattleType.owns, Ref.shr_vals}
use denote.{Ref.shr_Tells, Signature.plain, Signature.types_at, Steps.nothing, Steps.owned}
use denote.{Struct.Laws.makes, Text.StrRefOf, Text.str-laws, Triple.Entry.alive}
use Rattle.std.specs.contracts.marker.PhantomData as Mark
use Rattle.interpolator_escapes.proofs.HandSteps.{none, one, one_made}
use Rattle.interpolator_escapes.specs.contracts.taken.Taken as Taken
use Rattle.interpolator_escapes.specs.contracts.taken.Taken.and as F
use Rattle.interpolator_escapes.proofs.taken.Taken.and.Statement.{statement}
use Rattle.interpolator_escapes.proofs.taken.Taken.and.Code as code

abbrev stayed : Stays F.ended.signature.params F.ended.kept
stayed = (
  stay_dropped (RefOf (0 ∷ []) tt (plain (λ _. Taken.the_row)) (λ _. tt)) yes,
  (stay_dropped (StrRefOf (1 ∷ []) tt) yes, tt),
)

pub and_spec : {M : Type 1} → statement M
and_spec 𝓤 𝓛 𝓜 𝓡 wired =
    let c = F.clauses 𝓛 𝓜.mem 𝓡.returns in
    let str = λ (κ : List ℕ). str-laws (record { mir = named 1; lft = κ }) in
    proved 𝓛 F.ended stayed c 𝓜 𝓡 (
      Goes-dropped 𝓛 2 (RefOf (0 ∷ []) tt (plain (λ _. Taken.the_row)) (λ _. tt)) yes
          (λ κs x f. refl),
      (Goes-dropped 𝓛 2 (StrRefOf (1 ∷ []) tt) yes (λ κs x f. refl), tt),
    ) F.Key.name code.function (code.unfolded 𝓤 𝓛.H 𝓜 𝓡 wired)
    (λ κs. (shr_vals, (λ x. (str κs.1.0).val x ∷ [], tt)))
    (λ κs. (shr_Tells (named 0) κs.0 Taken.the_row, ((str κs.1.0).tells, tt)))
    (λ κs qs bounds a g are.
    let y : (walk_of 𝓛 F.ended stayed c).Ghost =
    ((κs, qs, bounds, a, (shr_vals a.0, ((str κs.1.0).val a.1.0 ∷ [], tt))), g) in
    let made : Taken.the_row.Denot =
    record { of = record {}; text = a.0.now.text ++ chars a.1.0.now; start = a.0.now.start } in
    qed 𝓛 ((raw (alive 𝓛 F.signature κs qs) ⊛ ‵ (owns (types_at F.signature.params κs) a y.0.4)) ∷ raw ((c κs a).requires g) ∷ []) ∵
    split ! $ keep ! (0 ∷ []) $
    enter ! _ _ _ _ _ $
    alloc_all ! (λ l. pass_all ! refl ((tt, tt), (((str κs.1.0).lawful 𝓛).typed a.1.0 _ are.1.0)) $
    sets ! (agg ! (no_more !)) refl (tt, tt) $
    sets ! (agg ! (and_then ! (get ! refl) (no_more !))) refl (tt, (tt, tt)) $
    nothing ! $ owned ! (Mark.the_row unit) (Is (Mark.the_row unit)) (makes (Mark.the_type unit) tt 𝓛) (record {}) (none ∷ []) (tt, (refl, tt)) $
    one_made ! (Mark.the_row unit) (record {}) none $ fjoin ! $
    returns ! (look_at ! 0 refl) $ free_all ! refl $
    suffices ! _ (ends_at 𝓛 F.ended stayed c y (one none) made (tt, (tt, tt)) (tt, (tt, tt))) $ says ! (refl, refl) $
    nothing ! $ nothing ! $ fjoin ! $ nothing ! $ fjoin ! $ move ! (2 ∷ 0 ∷ 1 ∷ []) $ done !))
