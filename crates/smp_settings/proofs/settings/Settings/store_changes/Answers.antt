use Rattle.std.proofs.Common.{subst, arith}
use Rattle.smp_flash.proofs.Passing.{reads_more}
use Rattle.smp_settings.specs.Cells.{CellChange}
use Rattle.smp_settings.specs.Places.{IsOneChange, CellSaves}
use Rattle.smp_settings.specs.Saved.{SettingsState, SavedOrThis, OneCellSaves}
use Rattle.smp_settings.proofs.Storing.{no_cell_told, cell_told, else_told, not_else_told, ages_more, ok_weaker, fewer_erases, no_cell_spared, all_spared}
use Rattle.smp_settings.proofs.settings.Settings.store_changes.Goals as goal

pub returns-then-not-write_change-clause-cell : goal.returns-then-not-write_change-clause-cell
returns-then-not-write_change-clause-cell g c =
    no_cell_told c.args.self.now (SavedOrThis c.args.self.now.layout c.args.self.now.running) _ _ _ _ c.requires.sure c.requires.says
    (subst (λ (s : SettingsState). (change : CellChange) → IsOneChange change s.saved s.running → ⊥) c.self.view_is (c.write_change.ensures.more (cc c.if-not-write_change.true))) c.replace.ensures.either

pub returns-then-not-write_change-clause-anew : goal.returns-then-not-write_change-clause-anew
returns-then-not-write_change-clause-anew g c = ok_weaker c.replace.result _ _ (else_told c.args.self.now.layout c.args.self.now.running _ _) c.replace.ensures.anew

pub returns-then-added-clause-reads : goal.returns-then-added-clause-reads
returns-then-added-clause-reads g c = reads_more 0 4096 _ _ (omega arith) c.append.ensures.reads

pub returns-then-added-clause-cell : goal.returns-then-added-clause-cell
returns-then-added-clause-cell g c = cell_told c.args.self.now.layout c.args.self.now.running _ _ _ _ c.append.ensures.newest c.append.ensures.changes

pub returns-then-added-clause-anew : goal.returns-then-added-clause-anew
returns-then-added-clause-anew g c =
    not_else_told c.args.self.now c.write_change.new.out.items (SavedOrThis c.args.self.now.layout c.args.self.now.running) _ _ c.requires.sure c.requires.says
    (subst (λ (s : SettingsState). CellSaves s.saved s.running c.write_change.new.out.items) c.self.view_is (c.write_change.ensures.one (cc c.if-not-write_change.false)))
    (c.in-Ok.ensures.free c.if-added.true) c.append.ensures.either

pub returns-then-added-clause-ages : goal.returns-then-added-clause-ages
returns-then-added-clause-ages g c = ages_more c.args.self.now.layout _ _ c.append.ensures.ages

pub returns-then-added-clause-erases : goal.returns-then-added-clause-erases
returns-then-added-clause-erases g c = fewer_erases _ _ _ _ c.append.ensures.changes

pub returns-then-not-write_change-clause-spared : goal.returns-then-not-write_change-clause-spared
returns-then-not-write_change-clause-spared g c =
    no_cell_spared c.args.self.now _ _ c.requires.sure c.requires.says
    (subst (λ (s : SettingsState). (change : CellChange) → IsOneChange change s.saved s.running → ⊥) c.self.view_is (c.write_change.ensures.more (cc c.if-not-write_change.true)))

pub returns-then-added-clause-spared : goal.returns-then-added-clause-spared
returns-then-added-clause-spared g c = all_spared (OneCellSaves c.args.self.now.layout c.args.self.now.running) _ _ c.append.ensures.reads
