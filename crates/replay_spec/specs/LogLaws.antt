pub mod LoggedMessages
pub mod HonestServers
pub mod Laws
