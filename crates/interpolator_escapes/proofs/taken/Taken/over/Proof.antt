-- `over` makes the empty struct, with what its clause names. Assumes `Logic`.
use Rattle.std.proofs.Common.{List, [], ◌∷◌, ◌++◌, refl}
use seplogic.Ra.Ura.{Ura}
use mir.Syntax.{Fn, Args, Dict, a_type, dcons, dnil}
use mir.{Val.Val, Val.vptr, MapTy.inst_fn}
use base.Logic.{SProp, ent}
use prog.{Memory.Memory, Routine.Routine, Wp.Calls, Wp.Loops, Wp.WpFn, Wp.Tables}
use contract.{Monad.Fun, Running.tables, Running.tables_of}
use sound.WpLaws.{WpFn-mono}
use types.Kit.{‵, raw, ◌⊛◌, prop, ◌$◌, ◌∵◌, !, qed, move, keep, drop, split, fsplit, fjoin, feq_l}
use types.Kit.{regoal, suffices, done}
use types.ByLocal.{alloc_all, pass_all, free_all, look_at, get, sets}
use types.{Logic.Logic, Part.agg, Run.enter, Run.returns, Run.and_then, Run.no_more}
use denote.Triple.Clauses.{Clauses, Ended, closing}
use denote.Triple.Walked.{says, Stays, stay_dropped, walk_of, ends_at, walk_Meets, Goes-dropped}
use denote.{Exit.yes, RattleType.RattleType, RattleType.owns, Builtin.RefOf, Builtin.unit, Laws.Is}
use denote.{Param.param, Param.bounded, Signature.plain, Signature.types_at, Steps.nothing}
use denote.{Steps.owned, Struct.Laws.makes, Triple.Entry.alive, Triple.Spec.Meets}
use denote.{Triple.Spec.triple_of, Triple.Table.entered}
use Rattle.std.specs.contracts.marker.PhantomData as Mark
use Rattle.interpolator_render.specs.declared.text_write.TextWrite as writes
use Rattle.interpolator_escapes.proofs.HandSteps.{none, one, one_made}
use Rattle.interpolator_escapes.specs.contracts.taken.Taken as Taken
use Rattle.interpolator_escapes.specs.contracts.taken.Taken.over as F
use Rattle.interpolator_escapes.specs.contracts.taken.Taken.over.Key.{name as #self}
use Rattle.interpolator_escapes.proofs.taken.Taken.over.Statement as stated
use Rattle.interpolator_escapes.proofs.taken.Taken.over.Code as code

module _ (W : RattleType) (g : writes.Ghosts W.Denot) (d : Dict) where
  abbrev args : Args
  args = bounded (a_type ∷ []) (W, tt) (dcons d dnil)

  abbrev function : Fn
  function = inst_fn args code.function

  abbrev ended : Ended
  ended = F.ended W g d

  abbrev stayed : Stays ended.signature.params ended.kept
  stayed = (stay_dropped (RefOf (0 ∷ []) tt (plain (λ _. param 0 W)) (λ _. tt)) yes, tt)

  module _ {M : Type 1} {𝓤 : Ura M} (𝓛 : Logic 𝓤) (at_mem : Memory → SProp 𝓤) (run : Routine → Fun 𝓤) where
    open 𝓛 use {H}

    abbrev held : Clauses 𝓤 ended
    held = F.clauses W g d 𝓛 at_mem run

    module _ (C : Calls 𝓤 H) (Λ : Loops 𝓤 H) (z : (walk_of 𝓛 ended stayed held).Ghost) where
      abbrev Post : Val → SProp 𝓤
      Post = (walk_of 𝓛 ended stayed held).post z

      abbrev toks : SProp 𝓤
      toks = alive 𝓛 ended.signature z.0.0 z.0.1

      walks : ent 𝓤 ((walk_of 𝓛 ended stayed held).pre z) (WpFn 𝓤 H C Λ function ((walk_of 𝓛 ended stayed held).args z) Post)
      walks =
          let a = z.0.3 in
          let vss = z.0.4 in
          let made : Taken.the_row.Denot =
          record { of = record {}; text = []; start = (g.written a.0.now).text } in
          qed 𝓛 ((raw toks ⊛ ‵ (owns (types_at ended.signature.params z.0.0) a vss)) ∷ raw ((held z.0.0 a).requires z.1) ∷ []) ∵
          keep ! (0 ∷ []) $ split ! $ move ! (1 ∷ []) $
          fsplit ! $ fsplit ! $ feq_l ! (λ is₀. drop ! $ drop ! $
          let p = vptr a.0.ref_ptr.0 a.0.ref_ptr.1 in
          regoal ! (λ (us : List Val). prop (WpFn 𝓤 H C Λ function (us ++ []) Post)) is₀ refl $
          enter ! C Λ function (p ∷ []) Post $ alloc_all ! (λ l. pass_all ! refl ((tt, tt), tt) $
          sets ! (agg ! (no_more !)) refl (tt, tt) $
          sets ! (agg ! (and_then ! (get ! refl) (no_more !))) refl (tt, (tt, tt)) $
          nothing ! $ owned ! (Mark.the_row unit) (Is (Mark.the_row unit)) (makes (Mark.the_type unit) tt 𝓛) (record {}) (none ∷ []) (tt, (refl, tt)) $
          one_made ! (Mark.the_row unit) (record {}) none $ fjoin ! $
          returns ! (look_at ! 0 refl) $ free_all ! refl $
          suffices ! _ (ends_at 𝓛 ended stayed held z (one none) made (tt, tt) (tt, tt)) $ says ! (refl, refl) $
          nothing ! $ nothing ! $ fjoin ! $ move ! (2 ∷ 0 ∷ 1 ∷ []) $ done !))

    meets : (𝓣 : Tables 𝓤 H) → Meets 𝓛 ended.signature (WpFn 𝓤 H 𝓣.C 𝓣.Λ function) (closing 𝓛 ended held)
    meets 𝓣 =
        walk_Meets 𝓛 ended stayed
        (Goes-dropped 𝓛 2 (RefOf (0 ∷ []) tt (plain (λ _. param 0 W)) (λ _. tt)) yes (λ κs x f. refl), tt) held
        (WpFn 𝓤 H 𝓣.C 𝓣.Λ function) (WpFn-mono 𝓤 H 𝓛.laws 𝓣 function) (walks 𝓣.C 𝓣.Λ)

pub over_spec : {M : Type 1} → stated.statement M
unfolding tables_of
over_spec 𝓤 𝓛 𝓜 𝓡 wired W LW g d met =
    let 𝓣 : Tables 𝓤 𝓛.H = tables_of 𝓤 𝓛.H 𝓜 (tables 𝓤 𝓛.H 𝓜 𝓡 𝓡.env) in
    entered 𝓤 𝓛.H (triple_of 𝓛 (ended W g d).signature (closing 𝓛 (ended W g d) (held W g d 𝓛 𝓜.mem 𝓡.returns))) 𝓣.C 𝓣.Λ (#self (args W g d)) (function W g d)
    (code.unfolded 𝓤 𝓛.H 𝓜 𝓡 wired (W, tt) d) (meets W g d 𝓛 𝓜.mem 𝓡.returns 𝓣)
