use Rattle.std.proofs.Common.{refl}
use Rattle.smp_settings.proofs.Storing.{cheap_told, same_not_else, pays_told, ok_weaker, side_spared}
use Rattle.smp_settings.proofs.settings.Settings.store.Goals as goal

pub returns-then-is_saved-clause-anew : goal.returns-then-is_saved-clause-anew
returns-then-is_saved-clause-anew g c = same_not_else c.args.self.now _ _ c.requires.sure (c.is_saved.ensures.same (cc c.if-is_saved.true)) c.requires.says refl

pub returns-clause-cheap : goal.returns-clause-cheap
returns-clause-cheap g c = cheap_told c.args.self.now _ _ _ _ c.requires.sure (c.is_saved.ensures.differ (cc c.if-is_saved.false)) c.requires.says c.store_changes.ensures.cell

pub returns-clause-pays : goal.returns-clause-pays
returns-clause-pays g c = ok_weaker c.store_changes.result _ _ (pays_told c.args.self.now.layout c.args.self.now.running _ _) c.store_changes.ensures.pays

pub returns-clause-spared : goal.returns-clause-spared
returns-clause-spared g c = side_spared c.args.self.now _ _ c.requires.sure (c.is_saved.ensures.differ (cc c.if-is_saved.false)) c.requires.says c.store_changes.ensures.spared
