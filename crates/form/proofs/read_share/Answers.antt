-- `form::read_share` meets its contract.
use native.Mathlib.Omega.{arith}
use mathlib.Core.Path.{refl}
use Rattle.form.proofs.Lines.{share_form, share_falls, share_none, share_foreign, share_right}
use Rattle.form.proofs.read_share.Goals as goal

pub read_line-requires : goal.read_line-requires
read_line-requires c = (omega arith, omega arith)

pub returns-in_default : goal.returns-in_default
returns-in_default c = λ s e. share_form c.args.text.now c.args.at s _ _ _ _ c.in_default.ensures refl

pub returns-then-account-from : goal.returns-then-account-from
returns-then-account-from c = λ s e. share_falls c.args.text.now c.args.at s _ _ c.in-Some.ensures _ _ _ _ (omega (arith, e, c.if-account-from.true)) refl

pub returns-then-share-eq0 : goal.returns-then-share-eq0
returns-then-share-eq0 c = λ s e. share_none c.args.text.now c.args.at s _ _ c.in-Some.ensures (omega (arith, e, c.if-account-from.false)) _ _ _ _ c.if-share-eq0.true refl

pub returns-then-account-gt-LAST_ACCOUNT : goal.returns-then-account-gt-LAST_ACCOUNT
returns-then-account-gt-LAST_ACCOUNT c = λ s e. share_foreign c.args.text.now c.args.at s _ _ c.in-Some.ensures (omega (arith, e, c.if-account-from.false)) c.if-share-eq0.false _ _ _ _ c.if-account-gt-LAST_ACCOUNT.true refl

pub returns : goal.returns
returns c = λ s e. share_right c.args.text.now c.args.at s _ _ c.in-Some.ensures (omega (arith, e, c.if-account-from.false)) c.if-share-eq0.false c.requires c.if-account-gt-LAST_ACCOUNT.false
