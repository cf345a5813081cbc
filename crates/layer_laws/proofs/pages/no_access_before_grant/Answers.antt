use Rattle.layer_laws.proofs.Grants.{never_granted, granted_before}
use Rattle.layer_laws.proofs.pages.no_access_before_grant.Goals as goal

pub returns-clause-rights : goal.returns-clause-rights
returns-clause-rights c = never_granted

pub returns-clause-access : goal.returns-clause-access
returns-clause-access c = granted_before
