-- `deliveries::numbers_at`: four fields one after another.
use Rattle.text_log.proofs.deliveries.numbers_at.Goals as goal

pub returns : goal.returns
returns c =
    record {
      versions = _;
      values = _;
      statuses = _;
      slot = c.in_ok-slot.ensures;
      version = c.in_ok-version.ensures;
      value = c.in_ok-value.ensures;
      status = c.in_ok-status.ensures;
    }
