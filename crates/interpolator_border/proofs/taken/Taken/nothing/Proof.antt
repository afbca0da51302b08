-- `nothing` makes the empty struct, with what its clause names. Assumes `Logic`.
use Rattle.std.proofs.Common.{[], ◌∷◌, refl}
use Rattle.std.proofs.raw_atomic.Walks.{proved}
use types.Kit.{‵, raw, ◌⊛◌, ◌$◌, ◌∵◌, !, qed, keep, split, move, fjoin, suffices, done}
use types.ByLocal.{alloc_all, pass_all, free_all, look_at, get, sets}
use types.{Part.agg, Run.enter, Run.returns, Run.and_then, Run.no_more}
use denote.Triple.Walked.{says, walk_of, ends_at}
use denote.{Builtin.unit, Laws.Is, RattleType.owns, Signature.types_at, Steps.nothing, Steps.owned}
use denote.{Struct.Laws.makes, Triple.Entry.alive}
use Rattle.std.specs.contracts.marker.PhantomData as Mark
use Rattle.interpolator_border.proofs.HandSteps.{none, one, one_made}
use Rattle.interpolator_border.specs.contracts.taken.Taken as Taken
use Rattle.interpolator_border.specs.contracts.taken.Taken.nothing as F
use Rattle.interpolator_border.proofs.taken.Taken.nothing.Statement.{statement}
use Rattle.interpolator_border.proofs.taken.Taken.nothing.Code as code

pub nothing_spec : {M : Type 1} → statement M
nothing_spec 𝓤 𝓛 𝓜 𝓡 wired =
    let c = F.clauses 𝓛 𝓜.mem 𝓡.returns in
    let made : Taken.the_row.Denot = record { of = record {}; text = [] } in
    proved 𝓛 F.ended tt c 𝓜 𝓡 tt F.Key.name code.function (code.unfolded 𝓤 𝓛.H 𝓜 𝓡 wired)
    (λ κs. tt) (λ κs. tt) (λ κs qs bounds a g are.
    let y : (walk_of 𝓛 F.ended tt c).Ghost = ((κs, qs, bounds, a, tt), g) in
    qed 𝓛 ((raw (alive 𝓛 F.signature κs qs) ⊛ ‵ (owns (types_at F.signature.params κs) a y.0.4)) ∷ raw ((c κs a).requires g) ∷ []) ∵
    split ! $ keep ! (0 ∷ []) $
    enter ! _ _ _ _ _ $ alloc_all ! (λ l. pass_all ! refl tt $
    sets ! (agg ! (no_more !)) refl (tt, tt) $
    sets ! (agg ! (and_then ! (get ! refl) (no_more !))) refl (tt, (tt, tt)) $
    nothing ! $ owned ! (Mark.the_row unit) (Is (Mark.the_row unit)) (makes (Mark.the_type unit) tt 𝓛) (record {}) (none ∷ []) (tt, (refl, tt)) $
    one_made ! (Mark.the_row unit) (record {}) none $ fjoin ! $
    returns ! (look_at ! 0 refl) $ free_all ! refl $
    suffices ! _ (ends_at 𝓛 F.ended tt c y (one none) made tt tt) $ says ! refl $
    nothing ! $ move ! (2 ∷ 0 ∷ 1 ∷ []) $ done !))
