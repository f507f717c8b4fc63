mod Gets
