use mathlib.Core.Path.{ap, ◌∙◌}
use lib.ListN.{take, drop}
use Rattle.records.specs.Stores.{key_read, credentials_read}
use Rattle.records.proofs.registry.validator_at.Goals as goal

pub returns : goal.returns
returns c =
    let ids = c.args.identities.now in
    let i = c.args.i.0 in
    let key = c.bytes_at-public_key.ensures ∙ key_read ids i c.requires.0 in
    let credentials =
    c.bytes_at-withdrawal_credentials.ensures
    ∙ ap (λ at. take 32 (drop at ids)) c.credentials_place.ensures
    ∙ credentials_read ids i c.requires.0 in
    λ j. record {
      public_key = key j;
      withdrawal_credentials = credentials j;
      slashed = c.word_at.ensures j;
      effective_balance = c.word_at-2.ensures j;
      activation_eligibility_epoch = c.word_at-3.ensures j;
      activation_epoch = c.word_at-4.ensures j;
      exit_epoch = c.word_at-5.ensures j;
      withdrawable_epoch = c.word_at-6.ensures j;
      balance = c.word_at-7.ensures j;
    }
