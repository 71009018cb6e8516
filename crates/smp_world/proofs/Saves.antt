-- What was saved stays saved until another save takes effect.
use Rattle.std.proofs.Common.{◌≡◌, inl, inr, ℕ, zero, suc, List, [], ◌∷◌, ◌++◌, false, Option, Some, None, Result, Ok, Err, refl, ap, subst, ◌∙◌}
use Rattle.std.specs.Result.{result_ok}
use Rattle.smp_flash.specs.declared.arm.ArmKind.{ArmKind}
use Rattle.smp_flash.specs.declared.arm.ArmKind.TheVariants as arms
use Rattle.smp_model.specs.declared.device.AbstractDevice.{AbstractDevice}
use Rattle.smp_model.specs.declared.device.Side.{Side}
use Rattle.smp_model.specs.Sides.{side_apply}
use Rattle.smp_model.specs.declared.device.Sizes.{Sizes}
use Rattle.smp_model.specs.declared.setting.Setting.{Setting}
use Rattle.smp_model.specs.Laws.{EachStep, IsNoSave}
use Rattle.smp_model.specs.Meaning.{meaning}
use Rattle.smp_model.specs.Meant.{Meant, save}
use Rattle.smp_model.specs.Said.{Said, empty}
use Rattle.smp_model.specs.Steps.{Change, write_setting, delete_setting, load_settings, begin_file, append_file, aim_at, Step, OnSide, Save, Run, with_side, apply, applied, changed}
use Rattle.smp_device.specs.Goings.{Armed, Durable, Went, Goes, IsToldBy, after_going, Booted}
use Rattle.smp_world.specs.Comings.{Came, Comes, after_coming, steps_of_boot, BootsAfter}
use Rattle.smp_world.specs.Laws.{NothingSaved, IsSave}
use Rattle.smp_world.specs.Runs.{Event, State, Moment, Run as IsRun, state_at_end}
use Rattle.smp_world.proofs.Deeds.{Says, Holds, each_deed}
use Rattle.smp_world.proofs.Durably.{boot_durable, came_durable, means}

changed_saved : (c : Change) (d : AbstractDevice) → (changed c d).saved ≡ d.saved
changed_saved (write_setting name val) d = refl
changed_saved (delete_setting name) d = refl
changed_saved load_settings d = refl
changed_saved (begin_file name announced part) d = refl
changed_saved (append_file name part) d = refl
changed_saved (aim_at image) d = refl

side_saved : (i : ℕ) (f : Side → Side) (d : AbstractDevice) → (with_side i f d).saved ≡ d.saved
side_saved zero f d = refl
side_saved (suc zero) f d = refl
side_saved (suc (suc n)) f d = refl

pub saved_after : (steps : List Step) (d : AbstractDevice) → EachStep IsNoSave steps → (applied steps d).saved ≡ d.saved
saved_after [] d h = refl
saved_after (OnSide i t ∷ steps) d h = saved_after steps (apply (OnSide i t) d) h.1 ∙ side_saved i (side_apply t) d
saved_after (Save ∷ steps) d h = absurd h.0
saved_after (Run c ∷ steps) d h = saved_after steps (apply (Run c) d) h.1 ∙ changed_saved c d

abbrev saved_of : Durable → List Setting
saved_of x = x.saved

-- an event without a save
abbrev KeepsSaved : Says
KeepsSaved d h x = EachStep IsNoSave x.taken → x.device.saved ≡ d.saved

saved_holds : (sizes : Sizes) (e : Event) → Holds sizes KeepsSaved e
saved_holds sizes e = record {
  stays = λ d h none. refl;
  unread = λ d h none. refl;
  arming = λ d h a is none. refl;
  packet_comes = λ d h m c k none. ap saved_of (came_durable sizes h d (meaning m) c k) ∙ saved_after (c.went.taken ++ steps_of_boot c.boot) d none;
  starts = λ d h b k none. ap saved_of (boot_durable h d b k) ∙ saved_after b.taken d none;
}

pub nothing_saved : (sizes : Sizes) (s : State) (events : List Event) (moments : List Moment)
    → IsRun sizes s events moments → NothingSaved moments → (state_at_end s moments).device.saved ≡ s.device.saved
nothing_saved sizes s [] [] r none = refl
nothing_saved sizes s (e ∷ events) (m ∷ moments) r none =
    nothing_saved sizes m.state events moments r.1 none.1 ∙ each_deed sizes KeepsSaved s e m (saved_holds sizes e) r.0 none.0
nothing_saved sizes s [] (m ∷ moments) r none = absurd r
nothing_saved sizes s (e ∷ events) [] r none = absurd r

-- the event of a save that was answered
abbrev Saves : Says
Saves d h x = x.request ≡ Some save → x.reply ≡ Some empty → x.device.saved ≡ d.running

abbrev some : Meant → Option Meant
some m = Some m

meant_save : (mm : Result Meant ℕ) → result_ok mm ≡ Some save → mm ≡ Ok save
meant_save (Ok m) e = ap means (same m save e)
  where
    same : (m n : Meant) → some m ≡ some n → m ≡ n
    same m n e = cc
meant_save (Err number) e = cc

told_empty : (kind : ArmKind) (group : ℕ) (reply : Option Said) → IsToldBy kind group reply → reply ≡ Some empty → ⊥
told_empty arms.Cut group reply t e = cc
told_empty arms.Fail group reply (inl t) e = cc
told_empty arms.Fail group reply (inr t) e = cc
told_empty arms.Read group reply t e = cc

going_saves : (sizes : Sizes) (h : Option Armed) (d : AbstractDevice) (w : Went) → Goes sizes h d (Ok save) w → w.reply ≡ Some empty → w.taken ≡ Save ∷ []
going_saves sizes h d w (inl p) e = p.taken
going_saves sizes h d w (inr p) e = absurd (told_empty p.arm.kind _ w.reply p.reply e)

coming_saves : (sizes : Sizes) (h : Option Armed) (d : AbstractDevice) (c : Came) → Comes sizes h d (Ok save) c → c.went.reply ≡ Some empty
    → (after_coming c d).saved ≡ d.running
coming_saves sizes h d c k e =
    ap saved_of (came_durable sizes h d (Ok save) c k) ∙ by_boot c.boot k.boots
  where
    by_boot : (b : Option Booted) → BootsAfter false c.went.armed (after_going c.went d) b → (applied (c.went.taken ++ steps_of_boot b) d).saved ≡ d.running
    by_boot None n =
        ap (λ (t : List Step). (applied (t ++ []) d).saved) (going_saves sizes h d c.went k.goes e)
    by_boot (Some b) n = absurd n

save_holds : (sizes : Sizes) (e : Event) → Holds sizes Saves e
save_holds sizes e = record {
  stays = λ d h q r. cc;
  unread = λ d h q r. cc;
  arming = λ d h a is q r. cc;
  packet_comes = λ d h m c k q r. coming_saves sizes h d c (subst (λ (x : Result Meant ℕ). Comes sizes h d x c) (meant_save (meaning m) q) k) r;
  starts = λ d h b k q r. cc;
}

pub run_saves : (sizes : Sizes) (s : State) (e : Event) (events : List Event) (m : Moment) (moments : List Moment)
    → IsRun sizes s (e ∷ events) (m ∷ moments) → IsSave m → NothingSaved moments → (state_at_end m.state moments).device.saved ≡ s.device.running
run_saves sizes s e events m moments r is none =
    nothing_saved sizes m.state events moments r.1 none ∙ each_deed sizes Saves s e m (save_holds sizes e) r.0 is.request is.reply
